use Rattle.std.proofs.Common.{◌∙◌, ap, refl}
use Rattle.pam_codes.proofs.Writing.{all-then, err-front, front-is, front-longer, front-then, writes-is, writes-then}
use Rattle.pam_page.proofs.LineParts.{code_name-is, path_line-is}
use Rattle.pam_page.specs.Page.{code_name}
use Rattle.pam_page.proofs.written.put_path.Goals as goal

pub returns-in_err-write_text : goal.returns-in_err-write_text
returns-in_err-write_text g c =
    let path = c.args.path.now in
    err-front _ c.from_residual.ensures.0
    (front-is (front-longer _ (front-longer _ (front-longer _ c.in_err-write_text.ensures)))
    (path_line-is path c.cursor.result (code_name path.decision) path.steps c.cursor.ensures.key refl refl))

pub returns-in_err-put_line : goal.returns-in_err-put_line
returns-in_err-put_line g c =
    let path = c.args.path.now in
    let name = c.as_bytes.ensures.value ∙ code_name-is _ _ c.name.ensures ∙ ap code_name c.decision.ensures in
    err-front _ c.from_residual-in_err-put_line.ensures.0
    (front-is (front-longer _ (front-longer _ (front-then c.in_ok-write_text.ensures c.in_err-put_line.ensures)))
    (path_line-is path c.cursor.result _ path.steps c.cursor.ensures.key name refl))

pub returns-in_err-put_steps : goal.returns-in_err-put_steps
returns-in_err-put_steps g c =
    let path = c.args.path.now in
    let name = c.as_bytes.ensures.value ∙ code_name-is _ _ c.name.ensures ∙ ap code_name c.decision.ensures in
    err-front _ c.from_residual-in_err-put_steps.ensures.0
    (front-is (front-longer _ (front-then (all-then c.in_ok-write_text.ensures c.in_ok-put_line.ensures) c.in_err-put_steps.ensures))
    (path_line-is path c.cursor.result _ _ c.cursor.ensures.key name c.steps.ensures))

pub returns : goal.returns
returns g c =
    let path = c.args.path.now in
    let name = c.as_bytes.ensures.value ∙ code_name-is _ _ c.name.ensures ∙ ap code_name c.decision.ensures in
    writes-is _ _ _ _ _ _ (writes-then _ _ _ (all-then (all-then c.in_ok-write_text.ensures c.in_ok-put_line.ensures) c.in_ok-put_steps.ensures) c.put.ensures)
    (path_line-is path c.cursor.result _ _ c.cursor.ensures.key name c.steps.ensures)
