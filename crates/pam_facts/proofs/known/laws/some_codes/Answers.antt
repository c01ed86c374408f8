use Rattle.pam_facts.proofs.KnownProofs.SomeCodes.{known_lawful, known_some}
use Rattle.pam_facts.proofs.known.laws.some_codes.Goals as goal

pub returns-clause-codes : goal.returns-clause-codes
returns-clause-codes c = known_some

pub returns-clause-lawful : goal.returns-clause-lawful
returns-clause-lawful c = known_lawful
