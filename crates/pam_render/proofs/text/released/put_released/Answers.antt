use Rattle.pam_codes.proofs.Writing.{all-then, err-front, front-longer, front-then, writes-then}
use Rattle.pam_render.proofs.text.released.put_released.Goals as goal

pub returns-in_err-put_count : goal.returns-in_err-put_count
returns-in_err-put_count g c =
    err-front _ c.from_residual-in_err-put_count.ensures.0
    (front-longer _ (front-then c.in_ok-put_release_front.ensures c.in_err-put_count.ensures))

pub returns : goal.returns
returns g c =
    writes-then _ _ _ (all-then c.in_ok-put_release_front.ensures c.in_ok-put_count.ensures) c.put_rules_if_any.ensures
