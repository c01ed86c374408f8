-- The part of the walks that is left, by the frames of the walk that was followed last.
use Rattle.std.specs.Prelude.{ℕ, Bool, List, [], ◌∷◌, ◌++◌, drop, map, reverse, slice_index_or}
use Rattle.std.specs.Prelude.{Option, None, Some}
use Rattle.std.specs.List.{flat_map}
use Rattle.pam_graph.specs.declared.direction.Direction.{Direction}
use Rattle.pam_graph.specs.declared.direction.Direction.TheVariants.{Forward, Backward}
use Rattle.pam_graph.specs.declared.frames.Frame.{Frame}
use Rattle.pam_graph.specs.declared.frames.Way.{Way}
use Rattle.pam_graph.specs.declared.goal.Goal.{Goal}
use Rattle.pam_graph.specs.declared.node.Edge.{Edge}
use Rattle.pam_graph.specs.declared.node.Node.{Node}
use Rattle.pam_graph.specs.Tallies.{wanted_of}
use Rattle.pam_graph.specs.Walks.{walks_by, walks_of, walks_to}
use Rattle.pam_paths.specs.Computed.{after_step, after_steps}
use Rattle.pam_paths.specs.Paths.{PathValue, StepValue}

-- in the order of a direction: some edges, and some walks
abbrev pub edges_in : Direction → List Edge → List Edge
edges_in Forward edges = edges
edges_in Backward edges = reverse edges

abbrev pub ordered : Direction → List PathValue → List PathValue
ordered Forward walks = walks
ordered Backward walks = reverse walks

-- the walks from each node on, in the order of a direction
abbrev pub known_in : Direction → List Node → List (List PathValue)
known_in direction nodes = map (ordered direction) (walks_of nodes)

-- the edges of a node
abbrev pub edges_of : Node → List Edge
edges_of node = node.edges.items

abbrev pub edges_at : List Node → ℕ → List Edge
edges_at nodes index = slice_index_or (map edges_of nodes) index []

-- the step of a frame
abbrev pub step_in : Frame → StepValue
step_in frame = record { module_number = frame.module_number; class = frame.class }

-- the wanted walks from a target on
abbrev pub along : Direction → Goal → List Node → Way → List PathValue
along direction goal nodes way = wanted_of goal way.is_met (walks_to (known_in direction nodes) way.target)

-- the wanted walks that begin with these edges of a node whose module has this number
abbrev pub wanted_by : Goal → Bool → List (List PathValue) → ℕ → List Edge → List PathValue
wanted_by goal is_met known number edges = wanted_of goal is_met (flat_map (walks_by known number) edges)

-- those that begin with the edges of a frame that are left
abbrev pub left_at : Direction → Goal → List Node → Frame → List PathValue
left_at direction goal nodes frame =
    wanted_by goal frame.is_met (known_in direction nodes) frame.module_number
    (drop frame.next (edges_in direction (edges_at nodes frame.node)))

-- the walks, each with the steps of the frames before it
abbrev pub under : List Frame → List PathValue → List PathValue
under frames walks = after_steps (map step_in frames) walks

-- the wanted walks after all that begin with the steps of the frames
unfoldable pub ahead : Direction → Goal → List Node → List Frame → List PathValue
ahead direction goal nodes [] = []
ahead direction goal nodes (frame ∷ frames) =
    map (after_step (step_in frame)) (ahead direction goal nodes frames) ++ left_at direction goal nodes frame

-- the walks that are left: those on a way after the steps of the frames, if there is one, then those after all that begin
-- with these steps
unfoldable pub coming : Direction → Goal → List Node → Option Way → List Frame → List PathValue
coming direction goal nodes None frames = ahead direction goal nodes frames
coming direction goal nodes (Some way) frames = under frames (along direction goal nodes way) ++ ahead direction goal nodes frames
