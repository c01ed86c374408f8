use Rattle.pam_codes.proofs.Writing.{err-front}
use Rattle.pam_drawing.proofs.Loops.{failed-at}
use Rattle.pam_drawing.proofs.xml.put_escaped.Goals as goal
use Rattle.pam_drawing.specs.Escaped.{escaped_byte}

pub returns-in_err-put_escaped_byte : goal.returns-in_err-put_escaped_byte
returns-in_err-put_escaped_byte g c =
    err-front _ c.from_residual.ensures.0
    (failed-at g.W.Write.contents escaped_byte c.args.text.now c.loop-byte.byte-index _ c.loop-byte-test.true c.loop-byte.invariant
    c.in_err-put_escaped_byte.ensures)
