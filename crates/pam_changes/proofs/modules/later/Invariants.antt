use Rattle.std.proofs.Common.{◌≡◌, take}
use Rattle.pam_changes.specs.Modules.{comes_later, old_where}
use Rattle.pam_changes.proofs.modules.later.Given as goal

abbrev pub invariant-loop-pair : goal.invariant-loop-pair
invariant-loop-pair l = l.moved.items ≡ old_where (comes_later l.pairs) (take l.pair-index l.pairs)
