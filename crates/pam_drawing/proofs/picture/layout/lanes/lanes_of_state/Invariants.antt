-- there are lanes enough for the nodes so far
use Rattle.std.proofs.Common.{◌≡◌, ℕ, ◌<◌, Some, slice_get}
use Rattle.pam_graph.specs.declared.node.Node.{Node}
use Rattle.pam_drawing.specs.picture.inner.Laned.{number_at}
use Rattle.pam_drawing.proofs.picture.layout.lanes.lanes_of_state.Given as goal

abbrev pub invariant-loop-index : goal.invariant-loop-index
invariant-loop-index l =
    (k : ℕ) (node : Node) → k < l.index → slice_get l.nodes k ≡ Some node → node.state ≡ l.state → number_at l.twins k < l.lanes
