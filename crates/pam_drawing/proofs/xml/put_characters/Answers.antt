use Rattle.pam_codes.proofs.Writing.{err-front}
use Rattle.pam_drawing.proofs.Loops.{failed-at}
use Rattle.pam_drawing.proofs.xml.put_characters.Goals as goal
use Rattle.pam_drawing.specs.Escaped.{named}

pub returns-in_err-put_character : goal.returns-in_err-put_character
returns-in_err-put_character g c =
    err-front _ c.from_residual.ensures.0
    (failed-at g.W.Write.contents named c.args.characters.now c.loop-character.character-index _ c.loop-character-test.true c.loop-character.invariant
    c.in_err-put_character.ensures)
