use Rattle.std.proofs.Common.{◌∙◌, ◌++◌, ap, codes}
use Rattle.pam_codes.proofs.Writing.{all-then, err-front, front-longer, front-then, writes-is, writes-then}
use Rattle.pam_render.specs.sentences.Shown.{shown_name}
use Rattle.pam_render.proofs.text.compare.parts.put_head.Goals as goal

pub returns-in_err-put : goal.returns-in_err-put
returns-in_err-put g c =
    err-front _ c.from_residual-in_err-put.ensures.0 (front-longer _ (front-then c.in_ok-put_name.ensures c.in_err-put.ensures))

pub returns : goal.returns
returns g c =
    writes-is _ _ _ _ _ _ (writes-then _ _ _ (all-then c.in_ok-put_name.ensures c.in_ok-put.ensures) c.put-2.ensures)
    (ap (λ l. (shown_name c.args.head.service.now ++ codes " ") ++ l) (c.as_bytes.ensures.value ∙ c.kind_name.ensures))
