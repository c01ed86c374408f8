use Rattle.std.proofs.Common.{List, ap}
use Rattle.std.specs.Option.{option_copied}
use Rattle.pam_render.specs.json_lines.Line.{items_of}
use Rattle.pam_text.proofs.Writing.{writes-is}
use Rattle.serde_json.specs.Data.{Data, array}
use Rattle.serde_json.specs.Written.{compact_text}
use Rattle.pam_lsp.specs.Findings.{finding_view}
use Rattle.pam_lsp.specs.Publications.{diagnostic_object}
use Rattle.pam_lsp.proofs.Lists.{map-seen}
use Rattle.pam_lsp.proofs.publication.PublishedValueWritten.put.Goals as goal

pub returns-in-Diagnostics : goal.returns-in-Diagnostics
returns-in-Diagnostics g c =
    let diagnostics = c.in-Diagnostics.diagnostics in
    let findings = c.in-Diagnostics.findings.now in
    rw c.in-Diagnostics.is
    (writes-is _ _ _ _ _ _ c.put_array.ensures
    (ap (λ (ds : List Data). compact_text (array (items_of ds)))
    (map-seen finding_view (diagnostic_object diagnostics.encoding (option_copied diagnostics.text)) findings)))
