-- the folders of the documents that are left go to those so far
use Rattle.std.proofs.Common.{◌≡◌, [], drop, fold, map, string_bytes}
use Rattle.pam_lsp.specs.Checks.{with_new}
use Rattle.pam_lsp.specs.Documents.{document_view}
use Rattle.pam_lsp.proofs.checking.folders_of.Given as goal

abbrev pub invariant-loop-document : goal.invariant-loop-document
invariant-loop-document l =
    fold with_new (map string_bytes l.folders.items) (map (λ d. d.folder) (map document_view (drop l.document-index l.documents)))
    ≡ fold with_new [] (map (λ d. d.folder) (map document_view l.documents))
