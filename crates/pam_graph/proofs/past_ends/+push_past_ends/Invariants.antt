-- the codes, and those of the items that are left, are what is wanted
use Rattle.std.proofs.Common.{◌≡◌, ◌+◌, ◌++◌, drop, length}
use Rattle.pam_conf.specs.ItemsOf.{items_of}
use Rattle.pam_graph.specs.PastEnds.{past_ends}
use Rattle.pam_graph.proofs.past_ends.+push_past_ends.Given as goal

abbrev pub decreases-push_past_ends : goal.decreases-push_past_ends
decreases-push_past_ends g l = goal.size-push_past_ends g l

abbrev pub invariant-loop-item : goal.invariant-loop-item
invariant-loop-item g l =
    (l.codes.items ++ past_ends (g.K.Knowledge.allows l.knowledge) (items_of (drop l.item-index l.items))
    ≡ l.initial.codes.items ++ past_ends (g.K.Knowledge.allows l.knowledge) (items_of l.items))
    × (l.items_after + l.item-index ≡ length l.items)
