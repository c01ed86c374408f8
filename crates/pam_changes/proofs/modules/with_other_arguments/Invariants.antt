use Rattle.std.proofs.Common.{◌≡◌, filter, take}
use Rattle.pam_changes.specs.Modules.{differ, same_arguments}
use Rattle.pam_changes.proofs.modules.with_other_arguments.Given as goal

abbrev pub invariant-loop-pair : goal.invariant-loop-pair
invariant-loop-pair l = l.changed.items ≡ filter (differ same_arguments l.old l.new) (take l.pair-index l.pairs)
