use Rattle.std.proofs.Common.{arith}
use Rattle.std.proofs.lemmas.Grind.{common_steps}
use Rattle.pam_drawing.proofs.PictureProofs.Notes.{one-more}
use Rattle.pam_drawing.proofs.picture.layout.notes.all_notes.Goals as goal

pub loop-index-preserved : goal.loop-index-preserved
loop-index-preserved c = record {
  numbers =
      one-more c.loop-index.notes.items _ _ c.loop-index.index c.loop-index.invariant.numbers (grind (arith, c.saturating_add.ensures))
      c.in_ok-push.ensures.items;
  classes = grind (arith, common_steps);
}
