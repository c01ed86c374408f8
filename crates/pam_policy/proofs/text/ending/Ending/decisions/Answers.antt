use Rattle.pam_policy.specs.text.Sentences.{decisions}
use Rattle.pam_policy.proofs.TextProofs.CodeSteps.{all_without}
use Rattle.pam_policy.proofs.text.ending.Ending.decisions.Goals as goal

pub returns-in-Fails : goal.returns-in-Fails
unfolding decisions
returns-in-Fails c = rw c.in-Fails.is (all_without _ _ (rw (c.all.ensures, c.letting_in-in-Fails.ensures) at c.without.ensures))
