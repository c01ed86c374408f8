use Rattle.pam_codes.proofs.Writing.{writes-is}
use Rattle.pam_drawing.proofs.picture.node.put_node.Goals as goal
use Rattle.pam_drawing.specs.picture.Picture.{node_text}
use Rattle.std.proofs.Common.{refl}

pub returns : goal.returns
unfolding node_text
returns g c =
    writes-is _ _ _ _ _ _ c.put_marks.ensures (rw
    (c.point_at-point.ensures, c.impression_name.ensures, c.stop_at.ensures, c.node_shape.ensures, c.is_forked.ensures) refl)
