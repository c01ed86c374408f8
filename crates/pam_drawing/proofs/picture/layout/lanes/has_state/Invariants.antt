-- a node is in the state if one of those that are left is
use Rattle.std.proofs.Common.{◌≡◌, drop}
use Rattle.pam_drawing.specs.picture.Lanes.{has_state}
use Rattle.pam_drawing.proofs.picture.layout.lanes.has_state.Given as goal

abbrev pub invariant-loop-node : goal.invariant-loop-node
invariant-loop-node l = has_state (drop l.node-index l.nodes) l.state ≡ has_state l.nodes l.state
