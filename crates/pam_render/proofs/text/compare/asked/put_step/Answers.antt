use Rattle.std.proofs.Common.{◌++◌, ap, codes}
use Rattle.pam_codes.proofs.Writing.{all-then, err-front, front-longer, front-then, writes-is, writes-then}
use Rattle.pam_render.specs.text.Compare.{module_text}
use Rattle.pam_render.proofs.text.compare.asked.put_step.Goals as goal

pub returns-in_err-put_module : goal.returns-in_err-put_module
returns-in_err-put_module g c =
    err-front _ c.from_residual-in_err-put_module.ensures.0
    (front-longer _ (front-longer _ (front-then c.in_ok-put.ensures c.in_err-put_module.ensures)))

pub returns-in_err-put-2 : goal.returns-in_err-put-2
returns-in_err-put-2 g c =
    err-front _ c.from_residual-in_err-put-2.ensures.0
    (front-longer _ (front-then (all-then c.in_ok-put.ensures c.in_ok-put_module.ensures) c.in_err-put-2.ensures))

pub returns : goal.returns
returns g c =
    writes-is _ _ _ _ _ _
    (writes-then _ _ _ (all-then (all-then c.in_ok-put.ensures c.in_ok-put_module.ensures) c.in_ok-put-2.ensures) c.put-3.ensures)
    (ap (λ l. (c.args.mark.now ++ module_text c.args.place.now c.args.stack.now c.args.number ++ codes " ") ++ l) c.name_of.ensures)
