use Rattle.std.proofs.Common.{[], ◌∷◌, refl}
use Rattle.pam_codes.proofs.Writing.{err-front}
use Rattle.pam_text.proofs.Splits.{split_found, split_none}
use Rattle.pam_text.specs.Cut.{is_among}
use Rattle.pam_render.proofs.TextProofs.ListTexts.{partly-failed, partly-last, partly-more, partly-none}
use Rattle.pam_render.specs.text.Explain.{example_line}
use Rattle.pam_render.proofs.text.explain.put_example_lines.Goals as goal

pub loop-line-init : goal.loop-line-init
loop-line-init g c = partly-none example_line _ _ _ refl

pub loop-line-preserved : goal.loop-line-preserved
loop-line-preserved g c =
    let cut = split_found (is_among (10 ∷ [])) c.loop-line.rest.now c.in-Some.line.now c.in-Some.after.now c.in-Some.ensures.value in
    partly-more example_line _ c.loop-line.invariant cut c.in_ok-put_example_line.ensures

pub returns-in_err-put_example_line : goal.returns-in_err-put_example_line
returns-in_err-put_example_line g c =
    let cut = split_found (is_among (10 ∷ [])) c.loop-line.rest.now c.in-Some.line.now c.in-Some.after.now c.in-Some.ensures.value in
    err-front _ c.from_residual.ensures.0 (partly-failed example_line _ c.loop-line.invariant cut c.in_err-put_example_line.ensures)

pub returns : goal.returns
returns g c =
    partly-last example_line _ _ _ c.loop-line.invariant (split_none (is_among (10 ∷ [])) c.loop-line.rest.now c.in_default.ensures.value)
    c.put_example_line-2.ensures
