use Rattle.pam_codes.proofs.Writing.{err-front}
use Rattle.pam_drawing.proofs.Loops.{failed-at}
use Rattle.pam_drawing.proofs.picture.heading.put_each_bracket.Goals as goal
use Rattle.pam_drawing.specs.picture.Picture.{bracket_text}

pub returns-in_err-put_bracket : goal.returns-in_err-put_bracket
returns-in_err-put_bracket g c =
    err-front _ c.from_residual.ensures.0
    (failed-at g.W.Write.contents bracket_text c.args.brackets.now c.loop-bracket.bracket-index _ c.loop-bracket-test.true
    c.loop-bracket.invariant c.in_err-put_bracket.ensures)
