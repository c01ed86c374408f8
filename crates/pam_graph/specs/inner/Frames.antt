-- For private contracts and proofs alone: the part of the walks that is left, by the frames of the walk that was followed last.
use Rattle.std.specs.Prelude.{◌≡◌, ℕ, ◌<◌, ◌+◌, List, [], ◌∷◌, length, map, slice_index_or, take, IfSome, Option}
use Rattle.pam_graph.specs.declared.frames.Frame.{Frame}
use Rattle.pam_graph.specs.declared.frames.Search.{Search}
use Rattle.pam_graph.specs.declared.frames.Way.{Way}
use Rattle.pam_graph.specs.declared.node.Node.{Node}
use Rattle.pam_graph.specs.Order.{AreNodes, IsAbove, numbers_of}
use Rattle.pam_graph.specs.inner.Tallies.{tallies_of}
use Rattle.pam_paths.specs.Paths.{PathValue, StepValue}
use Rattle.pam_graph.specs.Frames.{step_in}

-- the walk along frames, to a decision
abbrev pub walk_to : List Frame → ℕ → PathValue
walk_to frames decision = record { steps = map step_in frames; decision = decision }

-- steps are those of the frames, as far as there are both
abbrev pub AreFirstSteps : List Frame → List StepValue → Type 0
AreFirstSteps frames steps = take (length frames) steps ≡ take (length steps) (map step_in frames)

-- a frame is at a node, whose module has a number above `low`
pub record IsFrame (nodes : List Node) (low : ℕ) (frame : Frame) : Type 0 where
  pub node : frame.node < length nodes
  pub number : frame.module_number ≡ slice_index_or (numbers_of nodes) frame.node 0
  pub above : low < frame.module_number

-- frames of a walk, after `low` frames
unfoldable pub AreFrames : List Node → ℕ → List Frame → Type 0
AreFrames nodes low [] = Unit {0}
AreFrames nodes low (frame ∷ frames) = IsFrame nodes low frame × AreFrames nodes (low + 1) frames

-- a search through the nodes of a graph, with the numbers of walks that belong to it
pub record IsSearch (search : Search) : Type 0 where
  pub order : AreNodes [] search.nodes.now
  pub tallies : search.tallies.now ≡ tallies_of search.goal.now search.nodes.now

-- frames of a walk, and a way on after them, if there is one
pub record IsExploring (nodes : List Node) (pending : Option Way) (frames : List Frame) : Type 0 where
  pub valid : AreFrames nodes 0 frames
  pub way : IfSome pending (λ way. IsAbove (numbers_of nodes) (length frames) way.target)
