use Rattle.std.proofs.Common.{◌≡◌, [], drop, length}
use Rattle.pam_graph.specs.inner.Deciding.{with_edges}
use Rattle.pam_graph.specs.inner.Within.{AreWithin}
use Rattle.pam_graph.proofs.decisions.decided_by.Given as goal

abbrev pub invariant-loop-edge : goal.invariant-loop-edge
invariant-loop-edge l = record {
  codes : with_edges l.known l.codes (drop l.edge-index l.edges) ≡ with_edges l.known [] l.edges;
  within : AreWithin (length l.known) (drop l.edge-index l.edges);
}
