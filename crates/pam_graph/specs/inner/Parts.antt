-- For private contracts and proofs alone: the walks after a key, in the order of a direction.
use Rattle.std.specs.Prelude.{◌≡◌, ℕ, nat_lt, Bool, false, not, ◌||◌, List, [], ◌∷◌, ◌++◌, drop, filter, map, Option, None, Some}
use Rattle.pam_graph.specs.declared.direction.Direction.{Direction}
use Rattle.pam_graph.specs.declared.direction.Direction.TheVariants.{Forward, Backward}
use Rattle.pam_graph.specs.declared.frames.Way.{Way}
use Rattle.pam_graph.specs.declared.goal.Goal.{Goal}
use Rattle.pam_graph.specs.declared.node.Edge.{Edge}
use Rattle.pam_graph.specs.declared.node.Node.{Node}
use Rattle.pam_graph.specs.declared.node.Target.{Target}
use Rattle.pam_graph.specs.declared.node.Target.TheVariants.{At, End}
use Rattle.pam_graph.specs.declared.retrace.Turn.{Turn}
use Rattle.pam_graph.specs.Frames.{along, edges_in, wanted_by}
use Rattle.pam_graph.specs.Tallies.{wanted_of}
use Rattle.pam_graph.specs.inner.Tallies.{met_by, step_by}
use Rattle.pam_graph.specs.Walks.{walks_to}
use Rattle.pam_paths.specs.Computed.{after_step}
use Rattle.pam_paths.specs.Paths.{PathValue, key, precedes}

-- a walk comes after a key
abbrev pub is_past : Direction → List ℕ → PathValue → Bool
is_past Forward k walk = precedes k (key walk)
is_past Backward k walk = precedes (key walk) k

-- THE PART of some walks that comes after a key
abbrev pub part : Direction → List ℕ → List PathValue → List PathValue
part direction k walks = filter (is_past direction k) walks

-- a code comes after another
abbrev pub is_beyond : Direction → ℕ → ℕ → Bool
is_beyond Forward other code = nat_lt other code
is_beyond Backward other code = nat_lt code other

-- whether the walks from a target on come after a key, where the walks or the key have ended
abbrev pub is_past_end : Direction → Bool → Target → Bool
is_past_end Forward has_code (At index) = not has_code
is_past_end Forward has_code (End decision) = false
is_past_end Backward has_code (At index) = false
is_past_end Backward has_code (End decision) = has_code

-- the part of the wanted walks on a way, if there is one
abbrev pub part_along : Direction → Goal → List Node → List ℕ → Option Way → List PathValue
part_along direction goal nodes codes None = []
part_along direction goal nodes codes (Some way) = part direction codes (along direction goal nodes way)

-- the wanted walks that begin with an edge of a node whose module has this number, if there is one, and then come after a key
abbrev pub part_by : Direction → Goal → Bool → List (List PathValue) → ℕ → List ℕ → Option Edge → List PathValue
part_by direction goal is_met known number codes None = []
part_by direction goal is_met known number codes (Some edge) =
    map (after_step (step_by number edge))
    (part direction codes (wanted_of goal (is_met || met_by goal (step_by number edge)) (walks_to known edge.target)))

-- where a key turns off among the edges of a node, by its first code: the walks after it are those by the edge of the code that
-- come after the other codes, and all by later edges
abbrev pub IsTurn : Direction → List Edge → ℕ → Turn → Type 0
IsTurn direction edges code turn =
    (goal : Goal) (is_met : Bool) (known : List (List PathValue)) (number : ℕ) (codes : List ℕ) →
    part direction (code ∷ codes) (wanted_by goal is_met known number (edges_in direction edges))
    ≡ part_by direction goal is_met known number codes turn.edge ++ wanted_by goal is_met known number (drop turn.next (edges_in direction edges))
