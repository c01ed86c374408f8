use Rattle.std.proofs.Common.{◌∙◌, List, Vec, ℕ, ap, map, string_bytes, sym}
use Rattle.std.proofs.Common.{Global}
use Rattle.pam_lsp.proofs.Lists.{same_order}
use Rattle.pam_lsp.proofs.overlay.OverlaySystem.entries.Goals as goal

pub returns-clause-order : goal.returns-clause-order
returns-clause-order g c =
    let all = c.list_documents.new.names.items in
    same_order (λ (n : Vec ℕ Global). n.items) string_bytes all c.in_ok-texts.texts.items
    (sym (c.in_ok-texts.ensures ∙ ap (λ (ns : List (Vec ℕ Global)). map (λ n. n.items) ns) c.deref-2.ensures.value)) c.in_ok-list_documents.ensures.order
