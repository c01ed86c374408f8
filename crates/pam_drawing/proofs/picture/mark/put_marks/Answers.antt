use Rattle.pam_codes.proofs.Writing.{err-front, front-is}
use Rattle.pam_drawing.proofs.Loops.{failed-at}
use Rattle.pam_drawing.proofs.picture.mark.put_marks.Goals as goal
use Rattle.pam_drawing.specs.picture.inner.Marks.{mark_text}
use Rattle.std.proofs.Common.{ap}

pub returns-in_err-put_mark : goal.returns-in_err-put_mark
returns-in_err-put_mark g c =
    let text = mark_text in
    err-front _ c.from_residual.ensures.0
    (failed-at g.W.Write.contents text c.args.marks.now c.loop-mark.mark-index _ c.loop-mark-test.true c.loop-mark.invariant
    (front-is c.in_err-put_mark.ensures (ap text c.mark-item.is)))
