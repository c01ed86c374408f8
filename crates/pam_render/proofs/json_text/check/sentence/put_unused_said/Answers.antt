use Rattle.std.proofs.Common.{ap, sym}
use Rattle.pam_report.specs.Unused.{unused_view}
use Rattle.pam_report.specs.declared.report.unused.UnusedLine.{UnusedLine}
use Rattle.pam_text.proofs.Writing.{writes-is}
use Rattle.serde_json.specs.Written.{compact_text}
use Rattle.pam_render.specs.json_lines.Line.{joined}
use Rattle.pam_render.specs.json_text.Sentences.{unused_parts}
use Rattle.pam_render.proofs.json_text.check.sentence.put_unused_said.Goals as goal

pub returns-in-OfAccept : goal.returns-in-OfAccept
returns-in-OfAccept g c =
    writes-is _ _ _ _ _ _ c.put_bytes.ensures
    (ap (λ (unused : UnusedLine). compact_text (joined (unused_parts (unused_view unused)))) (sym c.in-OfAccept.is))
