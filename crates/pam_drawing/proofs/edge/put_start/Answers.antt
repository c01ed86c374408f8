use Rattle.pam_codes.proofs.Writing.{all-then, err-front, front-longer, front-then, writes-then}
use Rattle.pam_drawing.specs.Drawing.{start_text}
use Rattle.pam_drawing.proofs.edge.put_start.Goals as goal

pub returns-in_err-put_start_opening : goal.returns-in_err-put_start_opening
unfolding start_text
returns-in_err-put_start_opening g c = err-front _ c.from_residual.ensures.0 (front-longer _ (front-longer _ c.in_err-put_start_opening.ensures))

pub returns-in_err-put_target : goal.returns-in_err-put_target
unfolding start_text
returns-in_err-put_target g c =
    err-front _ c.from_residual-in_err-put_target.ensures.0
    (front-longer _ (front-then c.in_ok-put_start_opening.ensures c.in_err-put_target.ensures))

pub returns : goal.returns
unfolding start_text
returns g c = writes-then _ _ _ (all-then c.in_ok-put_start_opening.ensures c.in_ok-put_target.ensures) c.put_line_closing.ensures
