-- of the documents that are left, one is older if one of all is
use Rattle.std.proofs.Common.{◌≡◌, drop, map}
use Rattle.pam_lsp.specs.Documents.{document_view, has_older}
use Rattle.pam_lsp.proofs.document.has_older.Given as goal

abbrev pub invariant-loop-other : goal.invariant-loop-other
invariant-loop-other l =
    has_older (document_view l.document) (map document_view (drop l.other-index l.documents))
    ≡ has_older (document_view l.document) (map document_view l.documents)
