use Rattle.std.proofs.Common.{[], ◌∷◌, codes, refl}
use Rattle.std.specs.List.{concat}
use Rattle.pam_codes.proofs.Writing.{all-then, err-front, front-is, front-longer, front-then, writes-is, writes-then}
use Rattle.pam_codes.specs.SetText.{name_of}
use Rattle.pam_facts.specs.known.Answers.{name_of_path}
use Rattle.pam_report.specs.Decide.{path_at}
use Rattle.pam_render.proofs.TextProofs.CheckFindings.{answer_text-is}
use Rattle.pam_render.specs.sentences.Shown.{shown_name}
use Rattle.pam_render.proofs.text.check.finding.put_answer.Goals as goal

pub returns-in_err-put_line : goal.returns-in_err-put_line
returns-in_err-put_line g c =
    let answer = c.args.answer.now in
    let name = name_of_path (path_at answer.number c.args.stack.now) in
    let code = name_of answer.code in
    err-front _ c.from_residual.ensures.0
    (front-is (front-longer (concat (codes " " ∷ code ∷ [])) (front-longer (shown_name name) c.in_err-put_line.ensures))
    (answer_text-is c.args.stack.now answer name code refl refl))

pub returns-in_err-put_name : goal.returns-in_err-put_name
returns-in_err-put_name g c =
    let answer = c.args.answer.now in
    let code = name_of answer.code in
    err-front _ c.from_residual-in_err-put_name.ensures.0
    (front-is (front-longer (concat (codes " " ∷ code ∷ [])) (front-then c.in_ok-put_line.ensures c.in_err-put_name.ensures))
    (answer_text-is c.args.stack.now answer c.name_of_path.result.now code (rw (c.name_of_path.ensures, c.path_at.ensures) refl) refl))

pub returns : goal.returns
returns g c =
    let answer = c.args.answer.now in
    let code = c.name_of.result.now in
    writes-is _ _ _ _ _ _
    (writes-then _ (concat (codes " " ∷ code ∷ [])) _ (all-then c.in_ok-put_line.ensures c.in_ok-put_name.ensures) c.put_line-2.ensures)
    (answer_text-is c.args.stack.now answer c.name_of_path.result.now code (rw (c.name_of_path.ensures, c.path_at.ensures) refl) c.name_of.ensures)
