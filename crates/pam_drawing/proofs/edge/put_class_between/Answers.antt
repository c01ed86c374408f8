use Rattle.pam_codes.proofs.Writing.{all-then, err-front, front-longer, front-then, writes-then}
use Rattle.pam_drawing.specs.Drawing.{class_between}
use Rattle.pam_drawing.proofs.edge.put_class_between.Goals as goal

pub returns-in_err-put : goal.returns-in_err-put
unfolding class_between
returns-in_err-put g c = err-front _ c.from_residual.ensures.0 (front-longer _ (front-longer _ c.in_err-put.ensures))

pub returns-in_err-write_text : goal.returns-in_err-write_text
unfolding class_between
returns-in_err-write_text g c =
    err-front _ c.from_residual-in_err-write_text.ensures.0
    (front-longer _ (front-then c.in_ok-put.ensures c.in_err-write_text.ensures))

pub returns : goal.returns
unfolding class_between
returns g c = writes-then _ _ _ (all-then c.in_ok-put.ensures c.in_ok-write_text.ensures) c.put-2.ensures
