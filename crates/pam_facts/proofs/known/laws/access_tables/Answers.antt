use Rattle.pam_facts.proofs.KnownProofs.AccessSteps.{later_tables, one_table_alone}
use Rattle.pam_facts.proofs.known.laws.access_tables.Goals as goal

pub returns-clause-one : goal.returns-clause-one
returns-clause-one c = one_table_alone

pub returns-clause-later : goal.returns-clause-later
returns-clause-later c = later_tables
