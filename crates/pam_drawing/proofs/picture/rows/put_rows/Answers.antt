use Rattle.pam_codes.proofs.Writing.{err-front}
use Rattle.pam_drawing.proofs.Loops.{failed-at}
use Rattle.pam_drawing.proofs.picture.rows.put_rows.Goals as goal
use Rattle.pam_drawing.specs.picture.Rows.{row_byte}

pub returns-in_err-put_row_byte : goal.returns-in_err-put_row_byte
returns-in_err-put_row_byte g c =
    err-front _ c.from_residual.ensures.0
    (failed-at g.W.Write.contents row_byte c.args.text.now c.loop-byte.byte-index _ c.loop-byte-test.true c.loop-byte.invariant
    c.in_err-put_row_byte.ensures)
