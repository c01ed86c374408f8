use Rattle.pam_codes.proofs.Writing.{all-then, err-front, front-longer, front-then, writes-then}
use Rattle.pam_render.proofs.text.check.put_levels.Goals as goal

pub returns-in_err-put : goal.returns-in_err-put
returns-in_err-put g c =
    err-front _ c.from_residual-in_err-put.ensures.0
    (front-longer _ (front-longer _ (front-longer _ (front-then c.in_ok-put_counted.ensures c.in_err-put.ensures))))

pub returns-in_err-put_counted-2 : goal.returns-in_err-put_counted-2
returns-in_err-put_counted-2 g c =
    err-front _ c.from_residual-in_err-put_counted-2.ensures.0
    (front-longer _ (front-longer _ (front-then (all-then c.in_ok-put_counted.ensures c.in_ok-put.ensures) c.in_err-put_counted-2.ensures)))

pub returns-in_err-put-2 : goal.returns-in_err-put-2
returns-in_err-put-2 g c =
    err-front _ c.from_residual-in_err-put-2.ensures.0
    (front-longer _ (front-then (all-then (all-then c.in_ok-put_counted.ensures c.in_ok-put.ensures) c.in_ok-put_counted-2.ensures) c.in_err-put-2.ensures))

pub returns : goal.returns
returns g c =
    let before = all-then (all-then (all-then c.in_ok-put_counted.ensures c.in_ok-put.ensures) c.in_ok-put_counted-2.ensures) c.in_ok-put-2.ensures in
    writes-then _ _ _ before c.put_counted-3.ensures
