use Rattle.std.proofs.Common.{List, ap₂, ℕ}
use Rattle.pam_codes.proofs.Writing.{writes-is}
use Rattle.pam_explain.specs.declared.explanation.Level.{Level}
use Rattle.pam_explain.specs.Explanation.{Explanation}
use Rattle.pam_render.specs.text.Check.{heading_text}
use Rattle.pam_render.proofs.text.check.table.put_table_heading.Goals as goal

pub returns : goal.returns
returns g c =
    writes-is _ _ _ _ _ _ c.put_heading.ensures (ap₂ {A = Level} {B = Explanation} {C = List ℕ} heading_text c.level.ensures c.row.ensures)
