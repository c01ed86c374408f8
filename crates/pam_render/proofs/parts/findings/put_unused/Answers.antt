use Rattle.std.proofs.Common.{List, ℕ, ap}
use Rattle.pam_text.proofs.Writing.{writes-is}
use Rattle.pam_render.specs.parts.Findings.{Unused}
use Rattle.pam_report.specs.Unused.{unused_view}
use Rattle.pam_render.proofs.parts.findings.put_unused.Goals as goal

pub returns : goal.returns
returns g c =
    writes-is _ _ _ _ _ _ c.put_line.ensures
    (ap (λ (name : List ℕ). g.L.CheckLines.line (Unused name (unused_view c.args.line.now))) c.file-file.ensures)
