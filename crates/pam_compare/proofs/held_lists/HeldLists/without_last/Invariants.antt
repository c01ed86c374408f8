use Rattle.std.proofs.Common.{◌-◌, ◌≤◌, List, drop}
use Rattle.pam_compare.specs.declared.held.HeldAnswer.{HeldAnswer}
use Rattle.pam_compare.specs.inner.HeldLists.{IsListed}
use Rattle.pam_compare.proofs.held_lists.HeldLists.without_last.Given as goal

abbrev pub invariant-loop-left : goal.invariant-loop-left
invariant-loop-left l = record {
  most : l.left ≤ l.count;
  listed : (held : List HeldAnswer) → IsListed l.self.links.keys l.number held → IsListed l.self.links.keys l.at (drop (l.count - l.left) held);
}

abbrev pub decreases-loop-left : goal.decreases-loop-left
decreases-loop-left l = l.left
