use Rattle.std.proofs.Common.{◌∙◌, List, ap, ap₂, ℕ}
use Rattle.pam_explain.specs.declared.explanation.Level.{Level}
use Rattle.pam_explain.specs.Explanation.{Explanation}
use Rattle.pam_explain.specs.Views.{explanation_view}
use Rattle.pam_report.specs.Unused.{level_of_unused, number_of_unused, unused_view}
use Rattle.pam_text.proofs.Writing.{writes-is}
use Rattle.pam_render.specs.json_lines.Line.{joined}
use Rattle.pam_render.specs.json_text.Check.{other_json}
use Rattle.pam_render.specs.json_text.Sentences.{unused_parts}
use Rattle.pam_render.proofs.json_text.check.finding.put_unused.Goals as goal

pub returns : goal.returns
returns g c =
    let said = unused_view c.args.line.now in
    writes-is _ _ _ _ _ _ c.put_other.ensures
    (ap₂ {A = ℕ} {B = Level} {C = List ℕ}
    (λ number level. other_json c.args.file.now number level (explanation_view c.unused_row.result.now) (joined (unused_parts said)))
    c.number.ensures c.level.ensures
    ∙ ap (λ (row : Explanation). other_json c.args.file.now (number_of_unused said) (level_of_unused said) row (joined (unused_parts said)))
    c.unused_row.ensures)
