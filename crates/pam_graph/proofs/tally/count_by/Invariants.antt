use Rattle.std.proofs.Common.{◌≡◌, Some, drop, length}
use Rattle.pam_graph.specs.inner.Tallies.{sum_from}
use Rattle.pam_graph.specs.inner.Within.{AreWithin}
use Rattle.pam_graph.proofs.tally.count_by.Given as goal

abbrev pub invariant-loop-edge : goal.invariant-loop-edge
invariant-loop-edge l = record {
  sum : sum_from l.goal l.is_met l.number l.tallies l.count (drop l.edge-index l.edges)
      ≡ sum_from l.goal l.is_met l.number l.tallies (Some 0) l.edges;
  within : AreWithin (length l.tallies) (drop l.edge-index l.edges);
}
