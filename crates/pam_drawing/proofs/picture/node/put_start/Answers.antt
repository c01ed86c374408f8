use Rattle.pam_codes.proofs.Writing.{writes-is}
use Rattle.pam_drawing.proofs.picture.node.put_start.Goals as goal
use Rattle.pam_drawing.specs.picture.Picture.{start_text}
use Rattle.std.proofs.Common.{refl}

pub returns : goal.returns
unfolding start_text
returns g c = writes-is _ _ _ _ _ _ c.put_marks.ensures (rw (c.point_of-point.ensures) refl)
