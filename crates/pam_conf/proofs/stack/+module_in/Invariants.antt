use Rattle.std.proofs.Common.{◌≡◌, drop}
use Rattle.pam_conf.specs.Stack.{module_at}
use Rattle.pam_conf.specs.ItemsOf.{items_of}
use Rattle.pam_conf.proofs.stack.+module_in.Given as goal

abbrev pub decreases-module_in : goal.decreases-module_in
decreases-module_in l = goal.size-module_in l

abbrev pub invariant-loop-item : goal.invariant-loop-item
invariant-loop-item l = module_at l.number (items_of (drop l.item-index l.items)) ≡ module_at l.initial.number (items_of l.initial.items)
