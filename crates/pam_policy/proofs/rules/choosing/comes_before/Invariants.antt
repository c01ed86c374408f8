-- the answers so far are the same
use Rattle.std.proofs.Common.{◌≡◌, drop}
use Rattle.pam_policy.specs.rules.inner.Choosing.{comes_before}
use Rattle.pam_policy.proofs.rules.choosing.comes_before.Given as goal

abbrev pub invariant-loop-index : goal.invariant-loop-index
invariant-loop-index l = comes_before l.steps l.others ≡ comes_before (drop l.index l.steps) (drop l.index l.others)
