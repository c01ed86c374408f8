use Rattle.std.proofs.Common.{◌∙◌}
use Rattle.pam_codes.proofs.Writing.{writes-is}
use Rattle.pam_explain.specs.Views.{explanation_view}
use Rattle.pam_render.proofs.TextProofs.ExplainTexts.{row-is}
use Rattle.pam_render.proofs.text.explain.put_row.Goals as goal

pub returns : goal.returns
returns g c =
    writes-is _ _ _ _ _ _ c.put_line.ensures
    (row-is (explanation_view c.args.explanation.now) _ _ _ c.as_bytes.ensures.value c.as_bytes-2.ensures.value
    (c.as_bytes-3.ensures.value ∙ c.level_name.ensures))
