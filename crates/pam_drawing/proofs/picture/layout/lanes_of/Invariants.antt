-- the lanes so far
use Rattle.std.proofs.Common.{◌≡◌, map, take}
use Rattle.pam_drawing.specs.picture.inner.Laned.{lane_at}
use Rattle.pam_drawing.proofs.picture.layout.lanes_of.Given as goal

abbrev pub invariant-loop-height : goal.invariant-loop-height
invariant-loop-height l = l.lanes.items ≡ map lane_at (take l.height-index l.heights)
