-- The places of the nodes of a graph, and where its edges lead: pam.conf(5), DESCRIPTION.
use Rattle.std.specs.Prelude.{◌≡◌, ℕ, ◌<◌, true, All, List, [], ◌∷◌, None, Some, slice_get}
use Rattle.pam_dispatch.specs.declared.flat_item.FlatItem.{FlatItem}
use Rattle.pam_dispatch.specs.Decision.{decision_of}
use Rattle.pam_dispatch.specs.Flat.{modules_of, runs_of}
use Rattle.pam_dispatch.specs.Keys.{AreDifferent, KeyValue, rest_at}
use Rattle.pam_dispatch.specs.Representatives.{AreEqualRests}
use Rattle.pam_dispatch.specs.Runs.{Runs, after_answer, asked_module, next_ask, state_in}
use Rattle.pam_graph.specs.declared.node.Edge.{Edge}
use Rattle.pam_graph.specs.declared.node.Node.{Node}
use Rattle.pam_graph.specs.declared.node.Target.{Target}
use Rattle.pam_graph.specs.declared.node.Target.TheVariants.{At, End}
use Rattle.pam_graph.specs.Reached.{IsReachedKey}
use Rattle.pam_graph.specs.Walks.{GraphValue, walks_of}
use Rattle.pam_paths.specs.Classes.{class_of}
use Rattle.pam_paths.specs.Listing.{Allowance, IsListing}
use Rattle.pam_paths.specs.Paths.{PathValue, path_of}

-- a node is at the place with a key, to which allowed answers lead: it has the module that is asked there and the state in
-- which it is asked, and the walks from the node on are the paths from the place on
pub record IsNodeAt (allows : Allowance) (program : List FlatItem) (key : KeyValue) (node : Node) (walks : List PathValue) : Type 0 where
  pub reached : IsReachedKey allows program key
  pub asked : asked_module (rest_at program key) ≡ Some node.module_number
  pub state : state_in (rest_at program key) ≡ node.state
  pub listing : IsListing allows (modules_of program) (path_of (rest_at program key)) walks

-- nodes are at the places with these keys, one at each; with the walks from each node on
unfoldable pub AreNodesAt : Allowance → List FlatItem → List KeyValue → List Node → List (List PathValue) → Type 0
AreNodesAt allows program [] [] [] = Unit {0}
AreNodesAt allows program (key ∷ keys) (node ∷ nodes) (walks ∷ more) =
    IsNodeAt allows program key node walks × AreNodesAt allows program keys nodes more
AreNodesAt allows program keys nodes more = ⊥

-- THE NODES OF A GRAPH are at places that differ
abbrev pub AreNodesOf : Allowance → List FlatItem → List Node → Type 0
AreNodesOf allows program nodes =
    (keys : List KeyValue) × AreDifferent keys × AreNodesAt allows program keys nodes (walks_of nodes)

-- a run goes on at a target: at a node, if its rest is equal to the rest at the key of the node; at an end, if it asks no module and
-- this is its decision. `keys` are the keys of all nodes, in their order
abbrev pub GoesOnAt : List FlatItem → List KeyValue → Runs → Target → Type 0
GoesOnAt program keys runs (At index) = (key : KeyValue) × (slice_get keys index ≡ Some key) × AreEqualRests (rest_at program key) runs
GoesOnAt program keys runs (End decision) = (asked_module runs ≡ None) × (decision ≡ decision_of (state_in runs))

-- an edge from a place at which the module with this number is asked, and from which `runs` is left: it has the class of an answer
-- that the module is allowed, which is all answers that are alike to it there, and leads to where the run goes on after that answer
pub record IsEdgeAt (allows : Allowance) (program : List FlatItem) (keys : List KeyValue) (number : ℕ) (runs : Runs) (edge : Edge) : Type 0 where
  pub code : ℕ
  pub is_code : code < 31
  pub allowed : allows number code ≡ true
  pub class : edge.class ≡ class_of (next_ask runs) code
  pub leads : GoesOnAt program keys (after_answer runs code) edge.target

-- the same of each edge of the nodes at these keys; `all` are the keys of all nodes
unfoldable pub AreEdgesAt : Allowance → List FlatItem → List KeyValue → List KeyValue → List Node → Type 0
AreEdgesAt allows program all [] [] = Unit {0}
AreEdgesAt allows program all (key ∷ keys) (node ∷ nodes) =
    All (IsEdgeAt allows program all node.module_number (rest_at program key)) node.edges.items × AreEdgesAt allows program all keys nodes
AreEdgesAt allows program all keys nodes = ⊥

-- THE EDGES OF A GRAPH lead from the place of each node to those after allowed answers, and it begins where the runs of the program do
abbrev pub AreEdgesOf : Allowance → List FlatItem → GraphValue → Type 0
AreEdgesOf allows program graph =
    (keys : List KeyValue) × AreDifferent keys × AreNodesAt allows program keys graph.nodes (walks_of graph.nodes)
    × AreEdgesAt allows program keys keys graph.nodes × GoesOnAt program keys (runs_of program) graph.start
