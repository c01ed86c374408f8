use Rattle.pam_codes.proofs.Writing.{err-front, front-is}
use Rattle.pam_drawing.proofs.Loops.{failed-at}
use Rattle.pam_drawing.proofs.picture.svg.put_each_note.Goals as goal
use Rattle.pam_drawing.specs.picture.Picture.{note_text}
use Rattle.std.proofs.Common.{ap}

pub returns-in_err-put_note : goal.returns-in_err-put_note
returns-in_err-put_note g c =
    let text = note_text in
    err-front _ c.from_residual.ensures.0
    (failed-at g.W.Write.contents text c.args.notes.now c.loop-note.note-index _ c.loop-note-test.true c.loop-note.invariant
    (front-is c.in_err-put_note.ensures (ap text c.note-item.is)))
