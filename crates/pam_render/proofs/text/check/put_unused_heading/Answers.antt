use Rattle.std.proofs.Common.{◌∙◌, refl}
use Rattle.pam_codes.proofs.Writing.{err-front, front-is, front-longer, writes-is, writes-then}
use Rattle.pam_explain.specs.Views.{explanation_view}
use Rattle.pam_render.proofs.TextProofs.CheckTexts.{unused_heading-is}
use Rattle.pam_render.specs.text.Check.{heading_text}
use Rattle.pam_report.specs.Unused.{level_of_unused, unused_row, unused_view}
use Rattle.pam_render.proofs.text.check.put_unused_heading.Goals as goal

pub returns-in_err-put_line : goal.returns-in_err-put_line
returns-in_err-put_line g c =
    let unused = unused_view c.args.line.now in
    err-front _ c.from_residual.ensures.0
    (front-is (front-longer (heading_text (level_of_unused unused) unused_row) c.in_err-put_line.ensures)
    (unused_heading-is unused _ (level_of_unused unused) unused_row (c.from.ensures ∙ c.number.ensures) refl refl))

pub returns : goal.returns
returns g c =
    writes-is _ _ _ _ _ _ (writes-then _ _ _ c.in_ok-put_line.ensures c.put_heading.ensures)
    (unused_heading-is (unused_view c.args.line.now) _ c.level.result (explanation_view c.unused_row.result.now)
    (c.from.ensures ∙ c.number.ensures) c.level.ensures c.unused_row.ensures)
