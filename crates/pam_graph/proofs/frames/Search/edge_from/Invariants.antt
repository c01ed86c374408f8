use Rattle.std.proofs.Common.{◌≡◌, List, drop, map}
use Rattle.pam_graph.specs.Frames.{edges_in, wanted_by}
use Rattle.pam_graph.specs.inner.Tallies.{tally_of}
use Rattle.pam_paths.specs.Paths.{PathValue}
use Rattle.pam_graph.proofs.frames.Search.edge_from.Given as goal

abbrev pub invariant-loop-index : goal.invariant-loop-index
invariant-loop-index l =
    (known : List (List PathValue)) → l.self.tallies.now ≡ map (tally_of l.self.goal.now) known →
    wanted_by l.self.goal.now l.is_met known l.number (drop l.next (edges_in l.self.direction l.edges))
    ≡ wanted_by l.self.goal.now l.is_met known l.number (drop l.index (edges_in l.self.direction l.edges))
