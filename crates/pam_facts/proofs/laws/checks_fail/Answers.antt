use Rattle.pam_facts.proofs.LawSteps.{checking_modules_fail}
use Rattle.pam_facts.proofs.laws.checks_fail.Goals as goal

pub returns : goal.returns
returns c = checking_modules_fail
