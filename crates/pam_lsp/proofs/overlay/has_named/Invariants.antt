-- of the documents that are left, one has the name if one of all has
use Rattle.std.proofs.Common.{◌≡◌, drop, map}
use Rattle.pam_lsp.specs.Documents.{document_view}
use Rattle.pam_lsp.specs.Overlay.{has_named}
use Rattle.pam_lsp.proofs.overlay.has_named.Given as goal

abbrev pub invariant-loop-document : goal.invariant-loop-document
invariant-loop-document l =
    has_named l.folder l.name (map document_view (drop l.document-index l.documents)) ≡ has_named l.folder l.name (map document_view l.documents)
