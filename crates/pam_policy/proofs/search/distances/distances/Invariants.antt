-- the distances of the nodes so far
use Rattle.std.proofs.Common.{◌≡◌, length}
use Rattle.pam_graph.specs.Walks.{walks_of}
use Rattle.pam_paths.specs.Known.{may_answer}
use Rattle.pam_policy.specs.search.inner.Distances.{AreDistances}
use Rattle.pam_policy.proofs.search.distances.distances.Given as goal

abbrev pub invariant-loop-node : goal.invariant-loop-node
invariant-loop-node l = record {
  len : length l.far.items ≡ l.node-index;
  far : AreDistances (may_answer l.known) l.query (walks_of l.nodes) l.far.items;
}
