use Rattle.std.proofs.Common.{◌++◌, Some, codes, false}
use Rattle.pam_codes.proofs.Writing.{all-then, err-front, front-longer, front-then, writes-then}
use Rattle.pam_codes.specs.ControlText.{control_text}
use Rattle.pam_render.specs.text.Released.{kind_front, kind_text}
use Rattle.pam_render.proofs.text.released.put_failing.Goals as goal

pub returns-in_err-put : goal.returns-in_err-put
returns-in_err-put g c =
    let kind = kind_front false ++ kind_text (Some c.args.rule.now.kind) in
    err-front _ c.from_residual.ensures.0
    (front-longer (control_text c.args.rule.now.control) (front-longer (codes " ") (front-longer kind c.in_err-put.ensures)))

pub returns-in_err-put_kind : goal.returns-in_err-put_kind
returns-in_err-put_kind g c =
    err-front _ c.from_residual-in_err-put_kind.ensures.0
    (front-longer _ (front-longer _ (front-then c.in_ok-put.ensures c.in_err-put_kind.ensures)))

pub returns-in_err-put-2 : goal.returns-in_err-put-2
returns-in_err-put-2 g c =
    err-front _ c.from_residual-in_err-put-2.ensures.0
    (front-longer _ (front-then (all-then c.in_ok-put.ensures c.in_ok-put_kind.ensures) c.in_err-put-2.ensures))

pub returns : goal.returns
returns g c =
    writes-then _ _ _ (all-then (all-then c.in_ok-put.ensures c.in_ok-put_kind.ensures) c.in_ok-put-2.ensures) c.write_text.ensures
