use Rattle.pam_codes.proofs.Writing.{writes-is}
use Rattle.pam_drawing.proofs.picture.node.put_end.Goals as goal
use Rattle.pam_drawing.specs.picture.Picture.{end_text}
use Rattle.std.proofs.Common.{refl}

pub returns : goal.returns
unfolding end_text
returns g c =
    writes-is _ _ _ _ _ _ c.put_marks.ensures (rw
    (c.end_at-end.ensures, c.from.ensures, c.number.ensures.value, c.box_opening.ensures, c.name_of.ensures) refl)
