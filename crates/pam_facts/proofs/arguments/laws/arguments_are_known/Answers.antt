use Rattle.pam_facts.proofs.ArgumentProofs.LawSteps.{arguments_known}
use Rattle.pam_facts.proofs.arguments.laws.arguments_are_known.Goals as goal

pub returns : goal.returns
returns c = arguments_known
