use Rattle.pam_codes.proofs.Writing.{all-then, err-front, front-longer, front-then, writes-then}
use Rattle.pam_render.proofs.text.released.put_rule.Goals as goal

pub returns-in_err-put_kind : goal.returns-in_err-put_kind
returns-in_err-put_kind g c =
    err-front _ c.from_residual-in_err-put_kind.ensures.0 (front-longer _ (front-then c.in_ok-put_service.ensures c.in_err-put_kind.ensures))

pub returns : goal.returns
returns g c = writes-then _ _ _ (all-then c.in_ok-put_service.ensures c.in_ok-put_kind.ensures) c.put_body.ensures
