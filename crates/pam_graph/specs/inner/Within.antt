-- For private contracts and proofs alone: which nodes edges lead to.
use Rattle.std.specs.Prelude.{ℕ, ◌+◌, ◌<◌, List, [], ◌∷◌}
use Rattle.pam_graph.specs.declared.node.Edge.{Edge}
use Rattle.pam_graph.specs.declared.node.Target.{Target}
use Rattle.pam_graph.specs.declared.node.Target.TheVariants.{At, End}

-- a target is an end, or one of the first nodes
abbrev pub IsWithin : ℕ → Target → Type 0
IsWithin count (At index) = index < count
IsWithin count (End decision) = Unit {0}

-- so is the target of each edge
unfoldable pub AreWithin : ℕ → List Edge → Type 0
AreWithin count [] = Unit {0}
AreWithin count (edge ∷ edges) = IsWithin count edge.target × AreWithin count edges

-- a measure of what is left of a walk: the edges of a node lead below it
abbrev pub height : Target → ℕ
height (At index) = index + 1
height (End decision) = 0
