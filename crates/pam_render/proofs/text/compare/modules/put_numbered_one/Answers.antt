use Rattle.pam_codes.proofs.Writing.{all-then, err-front, front-longer, front-then, writes-then}
use Rattle.pam_render.specs.text.Compare.{numbered_text}
use Rattle.pam_render.proofs.text.compare.modules.put_numbered_one.Goals as goal

pub returns-in_err-put_module : goal.returns-in_err-put_module
unfolding numbered_text
returns-in_err-put_module g c =
    err-front _ c.from_residual-in_err-put_module.ensures.0
    (front-longer _ (front-longer _ (front-then c.in_ok-put_separator.ensures c.in_err-put_module.ensures)))

pub returns-in_err-put : goal.returns-in_err-put
unfolding numbered_text
returns-in_err-put g c =
    err-front _ c.from_residual-in_err-put.ensures.0
    (front-longer _ (front-then (all-then c.in_ok-put_separator.ensures c.in_ok-put_module.ensures) c.in_err-put.ensures))

pub returns : goal.returns
unfolding numbered_text
returns g c = writes-then _ _ _ (all-then (all-then c.in_ok-put_separator.ensures c.in_ok-put_module.ensures) c.in_ok-put.ensures) c.put-2.ensures
