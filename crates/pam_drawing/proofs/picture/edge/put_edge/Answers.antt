use Rattle.pam_codes.proofs.Writing.{writes-is}
use Rattle.pam_drawing.proofs.picture.edge.put_edge.Goals as goal
use Rattle.pam_drawing.specs.picture.Picture.{edge_text}
use Rattle.std.proofs.Common.{refl}

pub returns : goal.returns
unfolding edge_text
returns g c =
    writes-is _ _ _ _ _ _ c.put_marks.ensures (rw
    (c.point_at-start.ensures, c.point_of-end.ensures, c.route_at-route.ensures, c.stop_at.ensures, c.stop_of.ensures, c.is_forked.ensures) refl)
