use Rattle.std.proofs.Common.{arith}
use Rattle.pam_drawing.proofs.PictureProofs.Orders.{one-after}
use Rattle.pam_drawing.proofs.PictureProofs.Rooms.{kept, one-more}
use Rattle.pam_drawing.proofs.picture.layout.lanes.push_lanes.Goals as goal

pub loop-lane-preserved : goal.loop-lane-preserved
loop-lane-preserved c =
    let before = c.loop-lane.states.items in
    let all = c.push.new.self.items in
    let state = c.args.state.now in
    let pushed = c.in_ok-push.ensures.items in
    record {
      kept = λ s. omega (arith, c.loop-lane.invariant.kept s, kept before all state pushed s);
      room = omega (arith, c.loop-lane.invariant.room, one-more before all state pushed);
      order = one-after before all state c.loop-lane.invariant.order pushed;
    }
