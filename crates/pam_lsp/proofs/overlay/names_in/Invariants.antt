-- the names that are found, before those of the documents that are left
use Rattle.std.proofs.Common.{◌≡◌, ◌++◌, drop, map}
use Rattle.pam_lsp.specs.Documents.{document_view}
use Rattle.pam_lsp.specs.Overlay.{names_in}
use Rattle.pam_lsp.proofs.overlay.names_in.Given as goal

abbrev pub invariant-loop-document : goal.invariant-loop-document
invariant-loop-document l =
    map (λ n. n.now) l.names.items ++ names_in l.folder (map document_view (drop l.document-index l.documents))
    ≡ names_in l.folder (map document_view l.documents)
