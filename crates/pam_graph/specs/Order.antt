-- The order of the nodes of a graph, and of the edges of each.
use Rattle.std.specs.Prelude.{ℕ, ◌+◌, ◌<◌, ◌≤◌, List, [], ◌∷◌, ◌++◌, length, map, slice_index_or}
use Rattle.pam_conf.specs.declared.stack.TheConstants.{MAX_MODULES}
use Rattle.pam_graph.specs.declared.node.Edge.{Edge}
use Rattle.pam_graph.specs.declared.node.Node.{Node}
use Rattle.pam_graph.specs.declared.node.Target.{Target}
use Rattle.pam_graph.specs.declared.node.Target.TheVariants.{At, End}
use Rattle.pam_paths.specs.Classes.{least}

-- the number of the module of a node
abbrev pub number_of : Node → ℕ
number_of node = node.module_number

-- the numbers of the modules of nodes
abbrev pub numbers_of : List Node → List ℕ
numbers_of nodes = map number_of nodes

-- a target is an end, or one of the nodes whose modules have these numbers; then its module's number is above `low`
abbrev pub IsAbove : List ℕ → ℕ → Target → Type 0
IsAbove numbers low (At index) = (index < length numbers) × (low < slice_index_or numbers index 0)
IsAbove numbers low (End decision) = Unit {0}

-- so is the target of each edge
unfoldable pub AreAbove : List ℕ → ℕ → List Edge → Type 0
AreAbove numbers low [] = Unit {0}
AreAbove numbers low (edge ∷ edges) = IsAbove numbers low edge.target × AreAbove numbers low edges

-- the least codes of the classes of edges rise strictly, from `low` on and below `high`
unfoldable pub LeastRise : ℕ → ℕ → List Edge → Type 0
LeastRise low high [] = low ≤ high
LeastRise low high (edge ∷ edges) = (low ≤ least edge.class) × LeastRise (least edge.class + 1) high edges

-- a node has a module's number; its edges lead to nodes with these numbers, of modules that are asked later, and are in
-- the order of their least codes
pub record IsNode (numbers : List ℕ) (node : Node) : Type 0 where
  pub first : 1 ≤ node.module_number
  pub last : node.module_number ≤ MAX_MODULES
  pub later : AreAbove numbers node.module_number node.edges.items
  pub rise : LeastRise 0 31 node.edges.items

-- each node comes after those to which its edges lead; nodes with these numbers come before the list
unfoldable pub AreNodes : List ℕ → List Node → Type 0
AreNodes numbers [] = Unit {0}
AreNodes numbers (node ∷ nodes) = IsNode numbers node × AreNodes (numbers ++ node.module_number ∷ []) nodes

-- where a run begins: at a node, or at an end
abbrev pub IsStart : List Node → Target → Type 0
IsStart nodes target = IsAbove (numbers_of nodes) 0 target
