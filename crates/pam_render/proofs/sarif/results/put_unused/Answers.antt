use Rattle.std.proofs.Common.{List, None, ap, ap₂, ◌∙◌, ℕ}
use Rattle.pam_explain.specs.declared.explanation.Level.{Level}
use Rattle.pam_explain.specs.Explanation.{Explanation}
use Rattle.pam_report.specs.Unused.{level_of_unused, number_of_unused, unused_row, unused_view}
use Rattle.pam_text.proofs.Writing.{writes-is}
use Rattle.serde_json.specs.Written.{compact_text}
use Rattle.pam_render.specs.json_lines.Line.{joined}
use Rattle.pam_render.specs.json_text.Sentences.{unused_parts}
use Rattle.pam_render.specs.sarif.Results.{result_object}
use Rattle.pam_render.proofs.sarif.results.put_unused.Goals as goal

pub returns : goal.returns
returns g c =
    let unused = unused_view c.args.line.now in
    let said = joined (unused_parts unused) in
    writes-is _ _ _ _ _ _ c.put_result.ensures
    (ap₂ {A = Explanation} {B = Level} {C = List ℕ}
    (λ row level. compact_text (result_object row.number level said c.file.result.now c.number.result None)) c.unused_row.ensures c.level.ensures
    ∙ ap₂ {A = List ℕ} {B = ℕ} {C = List ℕ}
    (λ path number. compact_text (result_object unused_row.number (level_of_unused unused) said path number None)) c.file.ensures c.number.ensures)
