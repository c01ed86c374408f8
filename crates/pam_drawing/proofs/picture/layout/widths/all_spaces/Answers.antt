use Rattle.std.proofs.Common.{arith}
use Rattle.std.proofs.lemmas.Grind.{common_steps}
use Rattle.pam_drawing.proofs.PictureProofs.Orders.{first-column, next-column}
use Rattle.pam_drawing.proofs.picture.layout.widths.all_spaces.Goals as goal

pub loop-number-init : goal.loop-number-init
loop-number-init c = record { count = grind (arith, common_steps); order = first-column _ _ c.new-starts.ensures.items }

pub loop-number-preserved : goal.loop-number-preserved
loop-number-preserved c = record {
  count = grind (arith, common_steps);
  order =
      next-column c.loop-number.starts.items _ c.loop-number.end _ c.loop-number.invariant.order c.in_ok-gutter.ensures c.in_ok-push.ensures.items;
}
