-- For private contracts and proofs alone: a graph while it is built.
use Rattle.std.specs.Prelude.{◌≡◌, ℕ, ◌+◌, ◌-◌, ◌<◌, ◌≤◌, List, [], ◌∷◌, ◌++◌, Some, length, map}
use Rattle.pam_dispatch.specs.declared.flat_item.FlatItem.{FlatItem}
use Rattle.pam_dispatch.specs.declared.place.Place.{Place}
use Rattle.pam_dispatch.specs.Flat.{modules_of, rest_of}
use Rattle.pam_dispatch.specs.Keys.{DiffersFrom, KeyValue, rest_at}
use Rattle.pam_dispatch.specs.Runs.{AsksRise, Runs, asked_module, ends, asks, state_in}
use Rattle.pam_dispatch.specs.declared.state.State.{State}
use Rattle.pam_graph.specs.declared.building.Draft.{Draft}
use Rattle.pam_graph.specs.declared.node.Node.{Node}
use Rattle.pam_graph.specs.declared.node.Target.{Target}
use Rattle.pam_graph.specs.inner.Caches.{AreCachesFor}
use Rattle.pam_graph.specs.Order.{AreNodes, IsAbove, numbers_of}
use Rattle.pam_graph.specs.Places.{AreEdgesAt, GoesOnAt}
use Rattle.pam_graph.specs.Reached.{AreReachedKeys}
use Rattle.pam_graph.specs.Walks.{walks_of, walks_to}
use Rattle.pam_paths.specs.Computed.{listing}
use Rattle.pam_paths.specs.Listing.{Allowance}

-- the number of the module that a run asks next; 0 if it ends
abbrev pub next_number : Runs → ℕ
next_number (ends s) = 0
next_number (asks ask next) = ask.module_number

-- the state in which the module of a node is asked
abbrev pub state_of : Node → State
state_of node = node.state

-- the states of nodes
abbrev pub states_of : List Node → List State
states_of nodes = map state_of nodes

-- a run asks a module, and then later ones
pub record IsAsking (n : ℕ) (runs : Runs) : Type 0 where
  pub asked : asked_module runs ≡ Some (next_number runs)
  pub rise : AsksRise 0 n runs

unfoldable pub AreAsking : ℕ → List Runs → Type 0
AreAsking n [] = Unit {0}
AreAsking n (runs ∷ others) = IsAsking n runs × AreAsking n others

-- a node has the module that a run asks next, and the state of the run
pub record IsNodeFor (n : ℕ) (runs : Runs) (node : Node) : Type 0 where
  pub number : node.module_number ≡ next_number runs
  pub state : node.state ≡ state_in runs
  pub asking : IsAsking n runs

-- the walks from each node on are the paths from its place on
pub record IsBuilt (allows : Allowance) (program : List FlatItem) (nodes : List Node) (places : List KeyValue) : Type 0 where
  pub walks : walks_of nodes ≡ map (listing allows) (map (rest_at program) places)
  pub numbers : numbers_of nodes ≡ map next_number (map (rest_at program) places)
  pub states : states_of nodes ≡ map state_in (map (rest_at program) places)
  pub asking : AreAsking (modules_of program) (map (rest_at program) places)
  pub order : AreNodes [] nodes

-- a run asks a module next, and another ends, or asks one with a greater number
abbrev pub IsBefore : Runs → Runs → Type 0
IsBefore (ends s) other = ⊥
IsBefore (asks ask next) (ends s) = Unit {0}
IsBefore (asks ask next) (asks later after) = ask.module_number < later.module_number

-- nodes, or keys, were added at the end
abbrev pub IsExtended : {A : Type 0} → List A → List A → Type 0
IsExtended {A} old new = (more : List A) × (new ≡ old ++ more)

-- a draft of the graph of a program's runs, of at most `limit` nodes
pub record IsDraft (limit : ℕ) (allows : Allowance) (program : List FlatItem) (draft : Draft) : Type 0 where
  pub built : IsBuilt allows program draft.nodes.items draft.places
  pub cached : AreCachesFor allows program draft.caches.items
  pub keys : AreReachedKeys allows program draft.places
  pub fits : length draft.places ≤ limit
  pub edges : AreEdgesAt allows program draft.places draft.places draft.nodes.items

-- nodes and places to which others were added, so that the run goes on from a place at a target, and the walks from there on are the
-- paths; places of modules that are asked earlier were not added
pub record IsContinued (allows : Allowance) (program : List FlatItem) (place : Place) (old : List Node) (old_places : List KeyValue)
    (new : List Node) (new_places : List KeyValue) (target : Target) : Type 0 where
  pub extended : IsExtended old new
  pub apart : (key : KeyValue) → DiffersFrom key old_places → IsBefore (rest_at program key) (rest_of program place) → DiffersFrom key new_places
  pub above : (low : ℕ) → AsksRise low (modules_of program) (rest_of program place) → IsAbove (numbers_of new) low target
  pub walks : walks_to (walks_of new) target ≡ listing allows (rest_of program place)
  pub kept : IsExtended old_places new_places
  pub leads : GoesOnAt program new_places (rest_of program place) target

-- a draft was extended so that a target continues the runs that have come to a place
abbrev pub Continues : Allowance → List FlatItem → Place → Draft → Draft → Target → Type 0
Continues allows program place old new = IsContinued allows program place old.nodes.items old.places new.nodes.items new.places

-- a measure of what is left of a run: the number of modules from the one that is asked to the last
abbrev pub modules_left : ℕ → Runs → ℕ
modules_left n (ends s) = 0
modules_left n (asks ask next) = n + 1 - ask.module_number
