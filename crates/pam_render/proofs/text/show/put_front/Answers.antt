use Rattle.pam_codes.proofs.Writing.{all-then, err-front, front-longer, front-then, writes-then}
use Rattle.pam_render.specs.text.Show.{module_front}
use Rattle.pam_render.proofs.text.show.put_front.Goals as goal

pub returns-in_err-put_line : goal.returns-in_err-put_line
unfolding module_front
returns-in_err-put_line g c =
    err-front _ c.from_residual-in_err-put_line.ensures.0 (front-longer _ (front-longer _ (front-then c.in_ok-put_indent.ensures c.in_err-put_line.ensures)))

pub returns-in_err-put_place : goal.returns-in_err-put_place
unfolding module_front
returns-in_err-put_place g c =
    err-front _ c.from_residual-in_err-put_place.ensures.0
    (front-longer _ (front-then (all-then c.in_ok-put_indent.ensures c.in_ok-put_line.ensures) c.in_err-put_place.ensures))

pub returns : goal.returns
unfolding module_front
returns g c = writes-then _ _ _ (all-then (all-then c.in_ok-put_indent.ensures c.in_ok-put_line.ensures) c.in_ok-put_place.ensures) c.put_dash.ensures
