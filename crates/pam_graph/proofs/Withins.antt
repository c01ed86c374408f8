-- Which nodes edges lead to.
use Rattle.std.proofs.Common.{ℕ, List, [], ◌∷◌, subst, length}
use Rattle.std.proofs.lemmas.List.{length-map}
use Rattle.pam_graph.specs.declared.node.Edge.{Edge}
use Rattle.pam_graph.specs.declared.node.Node.{Node}
use Rattle.pam_graph.specs.declared.node.Target.{Target}
use Rattle.pam_graph.specs.declared.node.Target.TheVariants.{At, End}
use Rattle.pam_graph.specs.Order.{AreAbove, AreNodes, IsAbove, number_of, numbers_of}
use Rattle.pam_graph.specs.inner.Within.{AreWithin, IsWithin}

pub IsAbove-within : (numbers : List ℕ) (low : ℕ) (t : Target) → IsAbove numbers low t → IsWithin (length numbers) t
IsAbove-within numbers low (At index) h = h.0
IsAbove-within numbers low (End d) h = tt

AreAbove-long : (numbers : List ℕ) (low : ℕ) (edges : List Edge) → AreAbove numbers low edges → AreWithin (length numbers) edges
unfolding AreAbove AreWithin
AreAbove-long numbers low [] h = tt
AreAbove-long numbers low (edge ∷ edges) h = (IsAbove-within numbers low edge.target h.0, AreAbove-long numbers low edges h.1)

pub AreAbove-within : (nodes : List Node) (low : ℕ) (edges : List Edge) → AreAbove (numbers_of nodes) low edges → AreWithin (length nodes) edges
AreAbove-within nodes low edges h =
    subst (λ (n : ℕ). AreWithin n edges) (length-map nodes number_of) (AreAbove-long (numbers_of nodes) low edges h)

pub start-within : (nodes : List Node) (low : ℕ) (t : Target) → IsAbove (numbers_of nodes) low t → IsWithin (length nodes) t
start-within nodes low t h = subst (λ (n : ℕ). IsWithin n t) (length-map nodes number_of) (IsAbove-within (numbers_of nodes) low t h)

-- the edges of the first node lead to nodes before it
pub first-within : (before : List ℕ) (node : Node) (nodes : List Node) → AreNodes before (node ∷ nodes) → AreWithin (length before) node.edges.items
unfolding AreNodes
first-within before node nodes h = AreAbove-long before node.module_number node.edges.items h.0.later
