-- the nodes so far are in lanes for their states
use Rattle.std.proofs.Common.{◌≡◌, map, slice_get, take}
use Rattle.pam_drawing.specs.picture.inner.Laned.{state_of}
use Rattle.pam_drawing.proofs.picture.layout.lanes.lanes_of_nodes.Given as goal

abbrev pub invariant-loop-index : goal.invariant-loop-index
invariant-loop-index l = map (slice_get l.states) l.lanes.items ≡ map state_of (take l.index l.nodes)
