use Rattle.std.proofs.Common.{◌≡◌, take}
use Rattle.pam_changes.specs.Modules.{comes_sooner, old_where}
use Rattle.pam_changes.proofs.modules.sooner.Given as goal

abbrev pub invariant-loop-pair : goal.invariant-loop-pair
invariant-loop-pair l = l.moved.items ≡ old_where (comes_sooner l.pairs) (take l.pair-index l.pairs)
