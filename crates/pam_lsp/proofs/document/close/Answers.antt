use Rattle.std.proofs.Common.{◌∙◌, ap, map, not, rules}
use Rattle.std.proofs.lemmas.Fn.{filter_same}
use Rattle.std.specs.Str.{bytes_eq}
use Rattle.pam_lsp.specs.Documents.{document_view}
use Rattle.pam_lsp.proofs.Lists.{filter-viewed}
use Rattle.pam_lsp.proofs.document.close.Goals as goal

pub returns : goal.returns
returns c =
    ap (map document_view)
    (filter_same _ (λ d. not (bytes_eq (document_view d).uri c.args.uri.now)) _ (λ d b f h. search rules) _ _ c.retain.ensures.filtered)
    ∙ filter-viewed document_view (λ d. not (bytes_eq d.uri c.args.uri.now)) c.args.documents.now.items
