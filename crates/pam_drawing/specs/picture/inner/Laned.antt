-- For private contracts and proofs alone: how the lanes are laid out.
use Rattle.std.specs.Prelude.{◌≡◌, ℕ, ◌+◌, ◌^◌, ◌<◌, ◌==◌, Bool, true, if◌then◌else◌, List, Option, Some, None, length, map, slice_get, slice_index_or}
use Rattle.std.specs.List.{All, AllPairs, count_by, list_any, range_with_len}
use Rattle.std.specs.Option.{option_map_or}
use Rattle.pam_codes.specs.Set.{is_in}
use Rattle.pam_codes.specs.declared.code.TheConstants.{CODES}
use Rattle.pam_dispatch.specs.Hashing.{same_state}
use Rattle.pam_dispatch.specs.declared.state.State.{State}
use Rattle.pam_drawing.specs.Drawing.{drawn_ends}
use Rattle.pam_graph.specs.Walks.{GraphValue}
use Rattle.pam_graph.specs.declared.node.Node.{Node}
use Rattle.pam_drawing.specs.picture.Lanes.{IsNotAfter, IsOver, end_state, rank}
use Rattle.pam_drawing.specs.declared.picture.layout.heights.Heights.{Heights}
use Rattle.pam_drawing.specs.declared.picture.layout.lanes.Lanes.{Lanes}
use Rattle.pam_drawing.specs.declared.picture.layout.ports.Ports.{Ports}
use Rattle.pam_drawing.specs.declared.picture.layout.shapes.EndPlace.{EndPlace}
use Rattle.pam_drawing.specs.declared.picture.layout.shapes.Lane.{Lane}
use Rattle.pam_drawing.specs.declared.picture.layout.shapes.Place.{Place}
use Rattle.pam_drawing.specs.declared.picture.layout.shapes.Point.{Point}

abbrev pub number_at : List ℕ → ℕ → ℕ
number_at numbers index = slice_index_or numbers index 0

-- each of these numbers can be counted on from
abbrev pub AreFew : List ℕ → Type 0
AreFew numbers = All (λ (number : ℕ). number + 1 < 2 ^ 64) numbers

-- how many lanes are for a state
abbrev pub lanes_for : List State → State → ℕ
lanes_for states state = count_by (same_state state) states

-- there are more lanes for this state than any of its nodes has twins before it, and one for a decision that is drawn in it
pub record HasRoom (nodes : List Node) (twins ends : List ℕ) (states : List State) (state : State) : Type 0 where
  pub each_node : (index : ℕ) (node : Node) → slice_get nodes index ≡ Some node → node.state ≡ state → number_at twins index < lanes_for states state
  pub its_end : is_in state.status ends ≡ true → end_state nodes state.status ≡ state → 0 < lanes_for states state

-- the end with this decision is in this lane, if there is one for its state
abbrev pub IsLaneOfEnd : List Node → List State → ℕ → ℕ → Type 0
IsLaneOfEnd nodes states decision lane = 0 < lanes_for states (end_state nodes decision) → slice_get states lane ≡ Some (end_state nodes decision)

-- the states are in order, and before the one with this rank
pub record AreInOrder (bound : ℕ) (states : List State) : Type 0 where
  pub order : AllPairs IsNotAfter states
  pub before : All (λ (s : State). rank s < bound) states

abbrev pub state_of : Node → Option State
state_of node = Some node.state

-- each node is in a lane for its state
abbrev pub AreInLanes : List Node → Lanes → Type 0
AreInLanes nodes lanes = map (slice_get lanes.states.items) lanes.of_nodes.items ≡ map state_of nodes

-- the lanes are in order, and the nodes and the ends that are drawn are in lanes for their states
pub record AreLanesOf (graph : GraphValue) (lanes : Lanes) : Type 0 where
  pub nodes : AreInLanes graph.nodes lanes
  pub order : AllPairs IsNotAfter lanes.states.items
  pub ends : (decision : ℕ) → decision < CODES → is_in decision (drawn_ends graph) ≡ true
      → slice_get lanes.states.items (number_at lanes.of_ends.items decision) ≡ Some (end_state graph.nodes decision)

abbrev pub lane_of : Ports → ℕ
lane_of ports = ports.lane

abbrev pub leaves : ℕ → Ports → Bool
leaves lane ports = ports.lane == lane

-- the state that a lane is for, if edges leave from a node in it
abbrev pub state_in : List Ports → List State → ℕ → Option State
state_in all states lane = if list_any (leaves lane) all then slice_get states lane else None

abbrev pub lane_at : Heights → Lane
lane_at heights = heights.lane

abbrev pub state_at : Heights → Option State
state_at heights = heights.lane.state

-- a lane is over another one
abbrev pub IsHigher : Heights → Heights → Type 0
IsHigher upper lower = IsOver upper.lane lower.lane

-- nodes and ends are in lanes for their states, the edges of nodes leave from there, the lanes without a node are for no state, and they are
-- one below the other
pub record AreLaid (graph : GraphValue) (lanes : Lanes) (all : List Ports) (heights : List Heights) : Type 0 where
  pub in_lanes : AreLanesOf graph lanes
  pub leaving : map lane_of all ≡ map (number_at lanes.of_nodes.items) (range_with_len 0 (length graph.nodes))
  pub order : AllPairs IsHigher heights
  pub states : map state_at heights ≡ map (state_in all lanes.states.items) (range_with_len 0 (length lanes.states.items))

-- the height of the nodes in a lane
abbrev pub middle_in : List Heights → ℕ → ℕ
middle_in heights lane = option_map_or (λ (h : Heights). h.lane.middle) (slice_get heights lane) 0

-- the height of a node, where the nodes are in these lanes
abbrev pub height_in : List Heights → List ℕ → ℕ → ℕ
height_in heights lanes index = middle_in heights (number_at lanes index)

abbrev pub height_of : Place → ℕ
height_of place = place.point.y

abbrev pub point_of_end : EndPlace → Point
point_of_end end = end.point

-- where an end is, in the column at x, where the ends are in these lanes
abbrev pub end_in : ℕ → List Heights → List ℕ → ℕ → Point
end_in x heights lanes decision = record { x = x; y = height_in heights lanes decision }
