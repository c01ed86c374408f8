use Rattle.pam_codes.proofs.Writing.{writes-is}
use Rattle.pam_drawing.proofs.picture.heading.put_lane.Goals as goal
use Rattle.pam_drawing.specs.picture.Picture.{lane_text}
use Rattle.std.proofs.Common.{refl}

pub returns : goal.returns
unfolding lane_text
returns g c = writes-is _ _ _ _ _ _ c.put_marks.ensures (rw (c.lane_impression.ensures, c.lane_status.ensures) refl)
