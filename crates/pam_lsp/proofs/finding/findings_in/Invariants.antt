-- the findings that are told, before those of the lines that are left
use Rattle.std.proofs.Common.{◌≡◌, ◌++◌, drop, map}
use Rattle.serde_json.specs.View.{view}
use Rattle.pam_lsp.specs.Findings.{finding_view, findings_in}
use Rattle.pam_lsp.proofs.finding.findings_in.Given as goal

abbrev pub invariant-loop-value : goal.invariant-loop-value
invariant-loop-value l =
    map finding_view l.findings.items ++ findings_in (map view (drop l.value-index l.values)) ≡ findings_in (map view l.values)
