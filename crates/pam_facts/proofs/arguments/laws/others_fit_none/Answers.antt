use Rattle.pam_facts.proofs.ArgumentProofs.LawSteps.{other_kind_fits_none, unknown_fits_none}
use Rattle.pam_facts.proofs.arguments.laws.others_fit_none.Goals as goal

pub returns-clause-unknown : goal.returns-clause-unknown
returns-clause-unknown c = unknown_fits_none

pub returns-clause-other_kind : goal.returns-clause-other_kind
returns-clause-other_kind c = other_kind_fits_none
