use Rattle.pam_codes.proofs.Writing.{writes-is}
use Rattle.pam_drawing.proofs.picture.heading.put_heading.Goals as goal
use Rattle.pam_drawing.specs.picture.Picture.{column_heading}
use Rattle.std.proofs.Common.{refl}

pub returns : goal.returns
unfolding column_heading
returns g c =
    writes-is _ _ _ _ _ _ c.put_marks.ensures (rw
    (c.asked_row.ensures, c.control_at.ensures, c.name_ending.ensures, c.name_front.ensures, c.name_of_path-name.ensures, c.column_at.ensures) refl)
