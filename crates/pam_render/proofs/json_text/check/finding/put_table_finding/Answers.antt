use Rattle.std.proofs.Common.{◌∙◌, List, ap, ap₂, ℕ}
use Rattle.pam_explain.specs.declared.explanation.Level.{Level}
use Rattle.pam_explain.specs.Explanation.{Explanation}
use Rattle.pam_findings.specs.tables.Rows.{row_of}
use Rattle.pam_text.proofs.Writing.{writes-is}
use Rattle.pam_render.specs.json_lines.Line.{joined}
use Rattle.pam_render.specs.json_text.Check.{other_json}
use Rattle.pam_render.specs.json_text.Sentences.{table_parts}
use Rattle.pam_render.proofs.json_text.check.finding.put_table_finding.Goals as goal

pub returns : goal.returns
returns g c =
    let finding = c.args.finding in
    let said = joined (table_parts finding.problem) in
    writes-is _ _ _ _ _ _ c.put_other.ensures
    (ap₂ {A = Level} {B = Explanation} {C = List ℕ} (λ level row. other_json c.of.result.now finding.line level row said) c.level.ensures c.row.ensures
    ∙ ap (λ (path : List ℕ). other_json path finding.line (row_of finding.problem).level (row_of finding.problem) said) c.of.ensures)
