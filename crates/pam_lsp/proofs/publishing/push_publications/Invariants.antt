-- the messages so far
use Rattle.std.proofs.Common.{◌≡◌, ◌++◌, map, string_bytes, take}
use Rattle.pam_lsp.specs.Documents.{document_view}
use Rattle.pam_lsp.specs.Findings.{finding_view}
use Rattle.pam_lsp.specs.Publishing.{published_of}
use Rattle.pam_lsp.proofs.publishing.push_publications.Given as goal

abbrev pub invariant-loop-path : goal.invariant-loop-path
invariant-loop-path l =
    map (λ m. m.items) l.sent.items ≡ map (λ m. m.items) l.initial.sent.items
    ++ map (published_of l.shown.encoding (map document_view l.shown.documents.now) (map finding_view l.findings))
    (map string_bytes (take l.path-index l.paths))
