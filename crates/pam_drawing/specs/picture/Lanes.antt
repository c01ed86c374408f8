-- The lanes of a picture, each for nodes in one state.
use Rattle.std.specs.Prelude.{◌≡◌, ℕ, ◌+◌, ◌*◌, ◌<◌, ◌≤◌, ◌==◌, Bool, true, if◌then◌else◌, List, Some, length, slice_get}
use Rattle.std.specs.List.{AllPairs, list_any}
use Rattle.pam_codes.specs.Set.{is_in}
use Rattle.pam_codes.specs.declared.code.TheConstants.{CODES}
use Rattle.pam_dispatch.specs.Hashing.{same_state}
use Rattle.pam_dispatch.specs.State.{state_with, success}
use Rattle.pam_dispatch.specs.declared.state.Impression.{Impression}
use Rattle.pam_dispatch.specs.declared.state.Impression.TheVariants.{Undef, Positive, Negative}
use Rattle.pam_dispatch.specs.declared.state.State.{State}
use Rattle.pam_drawing.specs.Drawing.{drawn_ends}
use Rattle.pam_graph.specs.Walks.{GraphValue}
use Rattle.pam_graph.specs.declared.node.Node.{Node}
use Rattle.pam_drawing.specs.picture.Places.{end_at, point_at}
use Rattle.pam_drawing.specs.declared.picture.layout.Layout.{Layout}
use Rattle.pam_drawing.specs.declared.picture.layout.shapes.Lane.{Lane}

-- ---- the order of the states

abbrev pub impression_rank : Impression → ℕ
impression_rank Undef = 0
impression_rank Positive = 1
impression_rank Negative = 2

-- by impression, and within an impression by code
abbrev pub rank : State → ℕ
rank s = impression_rank s.impression * CODES + s.status

abbrev pub IsNotAfter : State → State → Type 0
IsNotAfter s t = rank s ≤ rank t

-- the nodes of a lane are at least this much above those of a lane below it
abbrev pub IsOver : Lane → Lane → Type 0
IsOver upper lower = upper.middle + 54 ≤ lower.middle

-- ---- the lanes of the ends

-- some node is in this state
abbrev pub has_state : List Node → State → Bool
has_state nodes state = list_any (λ (node : Node). same_state node.state state) nodes

-- the state of the lane that an end has for itself
abbrev pub own_state : ℕ → State
own_state decision = state_with (if decision == success then Positive else Negative) decision

-- THE STATE in whose lane an end is: the positive one with its decision as status, or else the negative one, or else undef; if no node is
-- in one of these, one for the end alone
abbrev pub end_state : List Node → ℕ → State
end_state nodes decision =
    if has_state nodes (state_with Positive decision) then state_with Positive decision
    else if has_state nodes (state_with Negative decision) then state_with Negative decision
    else if has_state nodes (state_with Undef decision) then state_with Undef decision
    else own_state decision

-- ---- the lanes

-- a node with this index is at the height of a lane, and the lane is for nodes in its state
abbrev pub IsInLane : Layout → ℕ → Node → Lane → Type 0
IsInLane layout index node lane = (lane.state ≡ Some node.state) × ((point_at layout index).y ≡ lane.middle)

-- the end with this decision is at the height of a lane for its state
abbrev pub IsEndInLane : List Node → List State → Layout → ℕ → Type 0
IsEndInLane nodes states layout decision =
    (number : ℕ) × (lane : Lane) × (slice_get layout.lanes.items number ≡ Some lane)
    × (slice_get states number ≡ Some (end_state nodes decision)) × ((end_at layout decision).point.y ≡ lane.middle)

-- THE LANES of the picture of a graph, one below the other. They are for these states, in order, and a lane that is named has the name of its
-- state. Each node is in a lane for its state, and each lane that is named has a node in it. Each decision that is drawn is in a lane for its
-- state; so this lane has no name where the end is alone in it
pub record HasLanes (graph : GraphValue) (layout : Layout) : Type 0 where
  pub states : List State
  pub count : length states ≡ length layout.lanes.items
  pub order : AllPairs IsNotAfter states
  pub heights : AllPairs IsOver layout.lanes.items
  pub names : (number : ℕ) (lane : Lane) (state : State) → slice_get layout.lanes.items number ≡ Some lane → lane.state ≡ Some state
      → slice_get states number ≡ Some state
  pub each_node : (index : ℕ) (node : Node) → slice_get graph.nodes index ≡ Some node
      → (number : ℕ) × (lane : Lane) × (slice_get layout.lanes.items number ≡ Some lane) × IsInLane layout index node lane
  pub each_lane : (number : ℕ) (lane : Lane) (state : State) → slice_get layout.lanes.items number ≡ Some lane → lane.state ≡ Some state
      → (index : ℕ) × (node : Node) × (slice_get graph.nodes index ≡ Some node) × IsInLane layout index node lane
  pub each_end : (decision : ℕ) → decision < CODES → is_in decision (drawn_ends graph) ≡ true → IsEndInLane graph.nodes states layout decision
