use Rattle.pam_codes.proofs.Writing.{all-then, err-flushes, flushes-last, front-longer, front-then}
use Rattle.pam_explain.specs.Views.{explanation_view}
use Rattle.pam_render.specs.text.Explain.{rest_text}
use Rattle.pam_render.proofs.text.explain.write_explanation.Goals as goal

pub returns-in_err-put_example : goal.returns-in_err-put_example
returns-in_err-put_example g c =
    err-flushes _ c.from_residual-in_err-put_example.ensures.0
    (front-longer (rest_text (explanation_view c.args.explanation.now)) (front-then c.in_ok-put_head.ensures c.in_err-put_example.ensures))

pub returns-in_err-put_rest : goal.returns-in_err-put_rest
returns-in_err-put_rest g c =
    err-flushes _ c.from_residual-in_err-put_rest.ensures.0
    (front-then (all-then c.in_ok-put_head.ensures c.in_ok-put_example.ensures) c.in_err-put_rest.ensures)

pub returns : goal.returns
returns g c =
    flushes-last _ _ (all-then (all-then c.in_ok-put_head.ensures c.in_ok-put_example.ensures) c.in_ok-put_rest.ensures) c.finish.ensures
