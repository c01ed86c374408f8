use Rattle.pam_policy.proofs.TextProofs.CodeSteps.{failures_are}
use Rattle.pam_policy.proofs.text.codes.failures.Goals as goal

pub returns : goal.returns
returns c = rw (c.without.ensures, c.all.ensures, c.insert-2.ensures, c.insert.ensures, c.single-others.ensures) failures_are
