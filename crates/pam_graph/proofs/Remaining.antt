-- What is left of a list.
use Rattle.std.proofs.Common.{◌≡◌, ℕ, ◌+◌, ◌<◌, List, ◌∷◌, ◌∙◌, ap, drop, get_or, length, sym}
use Rattle.std.proofs.lemmas.List.{drop_more}

-- the item at an index, and what is left after it
pub item-left : {X : Type 0} (items : List X) (i : ℕ) (item : X) → i < length items → item ≡ get_or items i item → drop i items ≡ item ∷ drop (i + 1) items
item-left {X} items i item within is = drop_more items i item within ∙ ap (λ (x : X). x ∷ drop (i + 1) items) (sym is)
