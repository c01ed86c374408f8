-- the lane is among those that are left
use Rattle.std.proofs.Common.{◌<◌, drop}
use Rattle.pam_drawing.specs.picture.inner.Laned.{lanes_for}
use Rattle.pam_drawing.proofs.picture.layout.lanes.lane_of.Given as goal

abbrev pub invariant-loop-lane : goal.invariant-loop-lane
invariant-loop-lane l = l.others < lanes_for l.states l.state → l.left < lanes_for (drop l.lane l.states) l.state
