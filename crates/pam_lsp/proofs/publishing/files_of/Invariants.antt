-- the files of the findings that are left go to those so far
use Rattle.std.proofs.Common.{◌≡◌, [], drop, fold, map, string_bytes}
use Rattle.pam_lsp.specs.Checks.{with_new}
use Rattle.pam_lsp.specs.Findings.{finding_view}
use Rattle.pam_lsp.proofs.publishing.files_of.Given as goal

abbrev pub invariant-loop-finding : goal.invariant-loop-finding
invariant-loop-finding l =
    fold with_new (map string_bytes l.files.items) (map (λ f. f.file) (map finding_view (drop l.finding-index l.findings)))
    ≡ fold with_new [] (map (λ f. f.file) (map finding_view l.findings))
