use Rattle.std.proofs.Common.{◌∙◌}
use Rattle.pam_drawing.proofs.PictureProofs.Controls.{all-controls, one-more}
use Rattle.pam_drawing.proofs.picture.layout.controls.first_controls.Goals as goal

pub loop-index-preserved : goal.loop-index-preserved
loop-index-preserved c =
    one-more c.args.stack.now c.args.count c.loop-index.index c.loop-index.controls.items _ _ c.loop-index-test.true c.loop-index.invariant
    c.in_ok-written_control.ensures c.in_ok-push.ensures.items

pub returns : goal.returns
returns c = c.loop-index.invariant ∙ all-controls c.args.stack.now c.args.count c.loop-index.index c.loop-index-test.false
