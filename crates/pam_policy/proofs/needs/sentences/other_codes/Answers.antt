use Rattle.pam_policy.proofs.TextProofs.CodeSteps.{all_without}
use Rattle.pam_policy.proofs.needs.sentences.other_codes.Goals as goal

pub returns : goal.returns
returns c = rw c.failures.ensures at (all_without _ c.failures.result (rw c.all.ensures at c.without.ensures))
