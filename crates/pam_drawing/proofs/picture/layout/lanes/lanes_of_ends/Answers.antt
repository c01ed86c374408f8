use Rattle.std.proofs.Common.{arith}
use Rattle.std.proofs.lemmas.Grind.{common_steps}
use Rattle.pam_drawing.proofs.PictureProofs.Rooms.{one-more-end}
use Rattle.pam_drawing.proofs.picture.layout.lanes.lanes_of_ends.Goals as goal

pub loop-number-preserved : goal.loop-number-preserved
loop-number-preserved c = record {
  count = grind (arith, common_steps);
  ends =
      one-more-end c.args.nodes.now c.args.states.now c.loop-number.lanes.items _ _ c.loop-number.number c.loop-number.invariant.count
      c.loop-number.invariant.ends c.lane_of_end.ensures c.in_ok-push.ensures.items;
}
