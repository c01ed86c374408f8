use Rattle.pam_codes.proofs.Writing.{all-then, err-front, front-longer, front-then, writes-then}
use Rattle.pam_render.specs.text.Check.{unused_line}
use Rattle.pam_render.proofs.text.check.put_unused.Goals as goal

pub returns-in_err-put_name : goal.returns-in_err-put_name
unfolding unused_line
returns-in_err-put_name g c =
    err-front _ c.from_residual.ensures.0 (front-longer _ (front-longer _ (front-longer _ c.in_err-put_name.ensures)))

pub returns-in_err-put_unused_heading : goal.returns-in_err-put_unused_heading
unfolding unused_line
returns-in_err-put_unused_heading g c =
    err-front _ c.from_residual-in_err-put_unused_heading.ensures.0
    (front-longer _ (front-longer _ (front-then c.in_ok-put_name.ensures c.in_err-put_unused_heading.ensures)))

pub returns-in_err-put_unused_said : goal.returns-in_err-put_unused_said
unfolding unused_line
returns-in_err-put_unused_said g c =
    err-front _ c.from_residual-in_err-put_unused_said.ensures.0
    (front-longer _ (front-then (all-then c.in_ok-put_name.ensures c.in_ok-put_unused_heading.ensures) c.in_err-put_unused_said.ensures))

pub returns : goal.returns
unfolding unused_line
returns g c =
    writes-then _ _ _ (all-then (all-then c.in_ok-put_name.ensures c.in_ok-put_unused_heading.ensures) c.in_ok-put_unused_said.ensures) c.put.ensures
