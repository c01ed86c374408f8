use Rattle.std.proofs.Common.{◌≡◌, ◌+◌, ◌≤◌, ◌++◌, drop, length}
use Rattle.pam_conf.specs.Stack.{depth}
use Rattle.pam_conf.specs.ItemsOf.{items_of}
use Rattle.pam_dispatch.specs.inner.Flat.{flat_list}
use Rattle.pam_dispatch.proofs.flatten.+flatten.Given as goal

abbrev pub decreases-flatten : goal.decreases-flatten
decreases-flatten l = goal.size-flatten l

abbrev pub invariant-loop-item : goal.invariant-loop-item
invariant-loop-item l =
    (l.flat_items.items ++ flat_list l.level (items_of (drop l.item-index l.items)) ≡ l.initial.flat_items.items ++ flat_list l.level (items_of l.items))
    × (l.items_after + l.item-index ≡ length l.items)
    × (l.level + depth (items_of (drop l.item-index l.items)) ≤ 16)
