use Rattle.pam_codes.proofs.Writing.{writes-is}
use Rattle.pam_drawing.proofs.picture.label.put_noted.Goals as goal
use Rattle.pam_drawing.specs.picture.Labels.{noted_label}
use Rattle.std.proofs.Common.{refl}

pub returns : goal.returns
unfolding noted_label
returns g c = writes-is _ _ _ _ _ _ c.put_line.ensures (rw (c.first_name.ensures, c.len.ensures.count) refl)
