-- the findings that are kept, before those of the ones that are left
use Rattle.std.proofs.Common.{◌≡◌, ◌++◌, drop, map}
use Rattle.pam_lsp.specs.Findings.{finding_view}
use Rattle.pam_lsp.specs.Publishing.{findings_at}
use Rattle.pam_lsp.proofs.publishing.findings_at.Given as goal

abbrev pub invariant-loop-finding : goal.invariant-loop-finding
invariant-loop-finding l =
    map finding_view l.those.items ++ findings_at l.path (map finding_view (drop l.finding-index l.findings))
    ≡ findings_at l.path (map finding_view l.findings)
