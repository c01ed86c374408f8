use Rattle.std.proofs.Common.{◌≡◌, List, ℕ, drop, length, map}
use Rattle.std.specs.List.{flat_map}
use Rattle.pam_graph.specs.inner.Deciding.{first_deciding}
use Rattle.pam_graph.specs.Goals.{decided}
use Rattle.pam_graph.specs.Order.{AreAbove}
use Rattle.pam_graph.specs.Walks.{walks_by}
use Rattle.pam_graph.specs.inner.Within.{AreWithin}
use Rattle.pam_paths.specs.Paths.{PathValue}
use Rattle.pam_graph.proofs.decisions.edge_to.Given as goal

abbrev pub invariant-loop-edge : goal.invariant-loop-edge
invariant-loop-edge l =
    let left = drop l.edge-index l.edges in
    record {
      within : AreWithin (length l.known) left;
      skipped : (walks : List (List PathValue)) (number : ℕ) → l.known ≡ map decided walks →
          first_deciding l.code (flat_map (walks_by walks number) l.edges) ≡ first_deciding l.code (flat_map (walks_by walks number) left);
      above : (numbers : List ℕ) (low : ℕ) → AreAbove numbers low l.edges → AreAbove numbers low left;
    }
