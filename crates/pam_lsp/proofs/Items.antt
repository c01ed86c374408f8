-- What an array holds.
use Rattle.std.proofs.Common.{◌≡◌, List, [], ◌∷◌, ap, refl}
use Rattle.serde_json.specs.Data.{Data}
use Rattle.serde_json.specs.View.{items_of}
use Rattle.pam_lsp.specs.Messages.{items_list}

pub list_of_items : (ds : List Data) → items_list (items_of ds) ≡ ds
list_of_items [] = refl
list_of_items (d ∷ ds) = ap (λ l. d ∷ l) (list_of_items ds)
