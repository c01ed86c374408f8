use Rattle.pam_codes.proofs.Writing.{all-then, err-front, front-longer, front-then, writes-then}
use Rattle.pam_render.specs.text.Check.{table_line}
use Rattle.pam_render.proofs.text.check.table.put_table_finding.Goals as goal

pub returns-in_err-put_place : goal.returns-in_err-put_place
unfolding table_line
returns-in_err-put_place g c =
    err-front _ c.from_residual.ensures.0 (front-longer _ (front-longer _ (front-longer _ c.in_err-put_place.ensures)))

pub returns-in_err-put_table_heading : goal.returns-in_err-put_table_heading
unfolding table_line
returns-in_err-put_table_heading g c =
    err-front _ c.from_residual-in_err-put_table_heading.ensures.0
    (front-longer _ (front-longer _ (front-then c.in_ok-put_place.ensures c.in_err-put_table_heading.ensures)))

pub returns-in_err-put_table_said : goal.returns-in_err-put_table_said
unfolding table_line
returns-in_err-put_table_said g c =
    err-front _ c.from_residual-in_err-put_table_said.ensures.0
    (front-longer _ (front-then (all-then c.in_ok-put_place.ensures c.in_ok-put_table_heading.ensures) c.in_err-put_table_said.ensures))

pub returns : goal.returns
unfolding table_line
returns g c =
    writes-then _ _ _ (all-then (all-then c.in_ok-put_place.ensures c.in_ok-put_table_heading.ensures) c.in_ok-put_table_said.ensures) c.put.ensures
