-- the numbers, and those that pass of the items that are left, are what is wanted
use Rattle.std.proofs.Common.{◌≡◌, ◌+◌, ◌++◌, drop, length}
use Rattle.pam_conf.specs.ItemsOf.{items_of}
use Rattle.pam_paths.specs.Known.{may_answer}
use Rattle.pam_findings.specs.stack.inner.PastEnd.{numbers_where, passes}
use Rattle.pam_findings.proofs.stack.past_end.+push_passing.Given as goal

abbrev pub decreases-push_passing : goal.decreases-push_passing
decreases-push_passing l = goal.size-push_passing l

abbrev pub invariant-loop-item : goal.invariant-loop-item
invariant-loop-item l =
    (l.numbers.items ++ numbers_where (passes (may_answer l.known) l.asked) (items_of (drop l.item-index l.items))
    ≡ l.initial.numbers.items ++ numbers_where (passes (may_answer l.known) l.asked) (items_of l.items))
    × (l.items_after + l.item-index ≡ length l.items)
