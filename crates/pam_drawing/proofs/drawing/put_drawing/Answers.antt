use Rattle.pam_codes.proofs.Writing.{all-then, err-front, front-longer, front-then, writes-then}
use Rattle.pam_drawing.specs.Drawing.{drawing}
use Rattle.pam_drawing.proofs.drawing.put_drawing.Goals as goal

pub returns-in_err-put_title : goal.returns-in_err-put_title
unfolding drawing
returns-in_err-put_title g c = err-front _ c.from_residual.ensures.0 (front-longer _ (front-longer _ (front-longer _ c.in_err-put_title.ensures)))

pub returns-in_err-put_shapes : goal.returns-in_err-put_shapes
unfolding drawing
returns-in_err-put_shapes g c =
    err-front _ c.from_residual-in_err-put_shapes.ensures.0
    (front-longer _ (front-longer _ (front-then c.in_ok-put_title.ensures c.in_err-put_shapes.ensures)))

pub returns-in_err-put_start_and_edges : goal.returns-in_err-put_start_and_edges
unfolding drawing
returns-in_err-put_start_and_edges g c =
    let before = all-then c.in_ok-put_title.ensures c.in_ok-put_shapes.ensures in
    err-front _ c.from_residual-in_err-put_start_and_edges.ensures.0 (front-longer _ (front-then before c.in_err-put_start_and_edges.ensures))

pub returns : goal.returns
unfolding drawing
returns g c =
    let before = all-then c.in_ok-put_title.ensures c.in_ok-put_shapes.ensures in
    writes-then _ _ _ (all-then before c.in_ok-put_start_and_edges.ensures) c.put_last_line.ensures
