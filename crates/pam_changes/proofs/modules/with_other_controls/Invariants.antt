use Rattle.std.proofs.Common.{◌≡◌, take}
use Rattle.pam_changes.specs.Modules.{differ, old_where, same_controls}
use Rattle.pam_changes.proofs.modules.with_other_controls.Given as goal

abbrev pub invariant-loop-pair : goal.invariant-loop-pair
invariant-loop-pair l = l.changed.items ≡ old_where (differ same_controls l.old l.new) (take l.pair-index l.pairs)
