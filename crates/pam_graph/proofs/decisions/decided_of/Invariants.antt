use Rattle.std.proofs.Common.{◌≡◌, [], List, ℕ, drop, length}
use Rattle.pam_graph.specs.Order.{AreNodes}
use Rattle.pam_graph.specs.inner.Deciding.{decided_by}
use Rattle.pam_graph.specs.Walks.{table}
use Rattle.pam_graph.proofs.decisions.decided_of.Given as goal

abbrev pub invariant-loop-node : goal.invariant-loop-node
invariant-loop-node l = record {
  known : table decided_by l.known.items (drop l.node-index l.nodes) ≡ table decided_by [] l.nodes;
  order : (before : List ℕ) × (length before ≡ length l.known.items) × AreNodes before (drop l.node-index l.nodes);
}
