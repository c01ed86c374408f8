-- the documents that are left have the path as all do
use Rattle.std.proofs.Common.{◌≡◌, drop, map}
use Rattle.pam_lsp.specs.Documents.{document_view, text_at}
use Rattle.pam_lsp.proofs.document.text_at.Given as goal

abbrev pub invariant-loop-document : goal.invariant-loop-document
invariant-loop-document l = text_at l.path (map document_view (drop l.document-index l.documents)) ≡ text_at l.path (map document_view l.documents)
