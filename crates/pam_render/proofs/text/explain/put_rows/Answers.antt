use Rattle.pam_codes.proofs.Writing.{err-front}
use Rattle.pam_render.proofs.TextProofs.ListTexts.{partly-failed, partly-more}
use Rattle.pam_render.specs.text.Explain.{row_text}
use Rattle.pam_render.proofs.text.explain.put_rows.Goals as goal

pub loop-explanation-preserved : goal.loop-explanation-preserved
loop-explanation-preserved g c = partly-more row_text _ c.loop-explanation.invariant c.in-Some.ensures.steps c.in_ok-put_row.ensures

pub returns-in_err-put_row : goal.returns-in_err-put_row
returns-in_err-put_row g c =
    err-front _ c.from_residual.ensures.0 (partly-failed row_text _ c.loop-explanation.invariant c.in-Some.ensures.steps c.in_err-put_row.ensures)
