use Rattle.pam_codes.proofs.Writing.{err-front, front-is}
use Rattle.pam_drawing.proofs.Loops.{failed-at}
use Rattle.pam_drawing.proofs.picture.heading.put_each_lane.Goals as goal
use Rattle.pam_drawing.specs.picture.Picture.{lane_text}
use Rattle.std.proofs.Common.{ap}

pub returns-in_err-put_lane : goal.returns-in_err-put_lane
returns-in_err-put_lane g c =
    let text = lane_text c.args.width in
    err-front _ c.from_residual.ensures.0
    (failed-at g.W.Write.contents text c.args.lanes.now c.loop-lane.lane-index _ c.loop-lane-test.true c.loop-lane.invariant
    (front-is c.in_err-put_lane.ensures (ap text c.lane-item.is)))
