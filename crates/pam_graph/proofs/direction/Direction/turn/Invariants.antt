use Rattle.std.proofs.Common.{◌≡◌, ◌∷◌, Bool, List, ℕ, drop}
use Rattle.pam_graph.specs.declared.goal.Goal.{Goal}
use Rattle.pam_graph.specs.Frames.{edges_in, wanted_by}
use Rattle.pam_graph.specs.inner.Parts.{part}
use Rattle.pam_paths.specs.Paths.{PathValue}
use Rattle.pam_graph.proofs.direction.Direction.turn.Given as goal

-- no walk by an edge so far comes after the key
abbrev pub invariant-loop-index : goal.invariant-loop-index
invariant-loop-index l =
    (goal : Goal) (is_met : Bool) (known : List (List PathValue)) (number : ℕ) (codes : List ℕ) →
    part l.self (l.code ∷ codes) (wanted_by goal is_met known number (edges_in l.self l.edges))
    ≡ part l.self (l.code ∷ codes) (wanted_by goal is_met known number (drop l.index (edges_in l.self l.edges)))
