use Rattle.std.proofs.Common.{List, ◌-◌, ◌++◌, drop, length}
use Rattle.pam_compare.specs.declared.held.HeldAnswer.{HeldAnswer}
use Rattle.pam_compare.specs.inner.HeldLists.{AreLinks, IsListed}
use Rattle.pam_compare.specs.inner.Nodes.{Keeps}
use Rattle.pam_compare.proofs.held_lists.HeldLists.extended.Given as goal

abbrev pub invariant-loop-back : goal.invariant-loop-back
invariant-loop-back l = record {
  keeps : Keeps l.fn.self.links.keys l.self.links.keys;
  links : (held : List HeldAnswer) → AreLinks l.fn.self.links.keys → IsListed l.fn.self.links.keys l.before held → AreLinks l.self.links.keys;
  listed : (held : List HeldAnswer) → AreLinks l.fn.self.links.keys → IsListed l.fn.self.links.keys l.before held
      → IsListed l.self.links.keys l.number (drop (length l.latest - l.back) l.latest ++ held);
}
