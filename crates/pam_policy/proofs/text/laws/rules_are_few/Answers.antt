use Rattle.pam_policy.proofs.TextProofs.LawSteps.{rules_are_few}
use Rattle.pam_policy.proofs.text.laws.rules_are_few.Goals as goal

pub returns : goal.returns
returns c = rules_are_few
