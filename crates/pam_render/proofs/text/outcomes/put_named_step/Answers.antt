use Rattle.std.proofs.Common.{codes, refl}
use Rattle.pam_codes.specs.SetText.{set_text}
use Rattle.pam_facts.specs.known.Answers.{name_of_path}
use Rattle.pam_report.specs.Decide.{path_at}
use Rattle.pam_render.specs.text.WordText.{shown_word_text}
use Rattle.pam_codes.proofs.Writing.{all-then, err-front, front-is, front-longer, front-then, writes-is, writes-then}
use Rattle.pam_paths.specs.Steps.{step_seen}
use Rattle.pam_render.proofs.TextProofs.OutcomeTexts.{named_step-is}
use Rattle.pam_render.proofs.text.outcomes.put_named_step.Goals as goal

pub returns-in_err-put : goal.returns-in_err-put
returns-in_err-put g c =
    let step = step_seen c.args.step.now in
    let path = path_at step.module_number c.args.modules.now in
    err-front _ c.from_residual.ensures.0
    (front-is (front-longer (set_text step.class) (front-longer (codes " ") (front-longer (shown_word_text (name_of_path path)) c.in_err-put.ensures)))
    (named_step-is c.args.modules.now step step.module_number path (name_of_path path) step.class refl refl refl refl))

pub returns-in_err-put_shown_word : goal.returns-in_err-put_shown_word
returns-in_err-put_shown_word g c =
    let step = step_seen c.args.step.now in
    err-front _ c.from_residual-in_err-put_shown_word.ensures.0
    (front-is (front-longer _ (front-longer _ (front-then c.in_ok-put.ensures c.in_err-put_shown_word.ensures)))
    (named_step-is c.args.modules.now step c.number.result _ _ step.class c.number.ensures c.path.ensures c.name_of_path.ensures refl))

pub returns-in_err-put-2 : goal.returns-in_err-put-2
returns-in_err-put-2 g c =
    let step = step_seen c.args.step.now in
    err-front _ c.from_residual-in_err-put-2.ensures.0
    (front-is (front-longer _ (front-then (all-then c.in_ok-put.ensures c.in_ok-put_shown_word.ensures) c.in_err-put-2.ensures))
    (named_step-is c.args.modules.now step c.number.result _ _ step.class c.number.ensures c.path.ensures c.name_of_path.ensures refl))

pub returns : goal.returns
returns g c =
    let step = step_seen c.args.step.now in
    writes-is _ _ _ _ _ _
    (writes-then _ _ _ (all-then (all-then c.in_ok-put.ensures c.in_ok-put_shown_word.ensures) c.in_ok-put-2.ensures) c.write_text.ensures)
    (named_step-is c.args.modules.now step c.number.result _ _ c.class.result c.number.ensures c.path.ensures c.name_of_path.ensures c.class.ensures)
