use Rattle.pam_facts.proofs.LawSteps.{arguments_fail}
use Rattle.pam_facts.proofs.laws.arguments_fail.Goals as goal

pub returns : goal.returns
returns c = arguments_fail
