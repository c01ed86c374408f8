-- the marks, and the modules of the nodes that are left, are those of all nodes
use Rattle.std.proofs.Common.{◌≡◌, ◌≤◌, ◌||◌, List, ℕ, drop}
use Rattle.pam_graph.specs.Order.{AreNodes}
use Rattle.pam_findings.specs.stack.inner.Marks.{has_number, mark_of}
use Rattle.pam_findings.proofs.stack.asked.marks_of.Given as goal

abbrev pub invariant-loop-node : goal.invariant-loop-node
invariant-loop-node l = record {
  marked : (n : ℕ) → 1 ≤ n → (mark_of l.marks n || has_number n (drop l.node-index l.nodes)) ≡ has_number n l.nodes;
  order : (before : List ℕ) × AreNodes before (drop l.node-index l.nodes);
}
