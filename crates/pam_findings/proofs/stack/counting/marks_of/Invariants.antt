-- the marks, and the nodes that are left at which success counts, are those of all nodes
use Rattle.std.proofs.Common.{◌≡◌, ◌≤◌, ◌||◌, List, ℕ, drop}
use Rattle.pam_graph.specs.Order.{AreNodes}
use Rattle.pam_findings.specs.stack.inner.Counting.{some_counts}
use Rattle.pam_findings.specs.stack.inner.Marks.{mark_of}
use Rattle.pam_findings.proofs.stack.counting.marks_of.Given as goal

abbrev pub invariant-loop-node : goal.invariant-loop-node
invariant-loop-node l = record {
  marked : (n : ℕ) → 1 ≤ n → (mark_of l.marks n || some_counts l.known n (drop l.node-index l.nodes)) ≡ some_counts l.known n l.nodes;
  order : (before : List ℕ) × AreNodes before (drop l.node-index l.nodes);
}
