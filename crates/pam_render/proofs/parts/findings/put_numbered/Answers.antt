use Rattle.std.proofs.Common.{Option, ap}
use Rattle.pam_text.proofs.Writing.{writes-is}
use Rattle.pam_findings.specs.misspelled.Misspelled.{MisspelledText}
use Rattle.pam_render.specs.parts.CheckNames.{names_view}
use Rattle.pam_render.specs.parts.Findings.{Found}
use Rattle.pam_render.proofs.parts.findings.put_numbered.Goals as goal

pub returns : goal.returns
returns g c =
    writes-is _ _ _ _ _ _ c.put_line.ensures
    (ap (λ (word : Option MisspelledText). g.L.CheckLines.line (Found (names_view c.args.names.now) c.args.entry.now word)) c.word_at-word.ensures)
