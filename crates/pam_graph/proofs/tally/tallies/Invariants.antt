use Rattle.std.proofs.Common.{◌≡◌, [], List, ℕ, drop, length}
use Rattle.pam_graph.specs.Order.{AreNodes}
use Rattle.pam_graph.specs.inner.Tallies.{tally_by}
use Rattle.pam_graph.specs.Walks.{table}
use Rattle.pam_graph.proofs.tally.tallies.Given as goal

abbrev pub invariant-loop-node : goal.invariant-loop-node
invariant-loop-node l = record {
  known : table (tally_by l.goal) l.tallies.items (drop l.node-index l.nodes) ≡ table (tally_by l.goal) [] l.nodes;
  order : (before : List ℕ) × (length before ≡ length l.tallies.items) × AreNodes before (drop l.node-index l.nodes);
}
