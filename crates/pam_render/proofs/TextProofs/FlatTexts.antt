-- The bytes of a list, element by element.
use Rattle.std.proofs.Common.{◌≡◌, ℕ, ◌+◌, ◌<◌, List, [], ◌∷◌, ◌++◌, length, take, drop, get_or, sym, ap, ◌∙◌, map}
use Rattle.std.proofs.lemmas.List.{map-append, take-append-drop, take_more}

-- the bytes of the elements before the i-th, of that element and of the others
pub map-at : {A : Type 0} (byte : A → ℕ) (xs : List A) (i : ℕ) (d : A) → i < length xs
    → (map byte (take i xs) ++ byte (get_or xs i d) ∷ []) ++ map byte (drop (i + 1) xs) ≡ map byte xs
map-at byte xs i d h =
    ap (λ l. l ++ map byte (drop (i + 1) xs)) (sym (map-append byte (take i xs) (get_or xs i d ∷ [])))
    ∙ sym (map-append byte (take i xs ++ get_or xs i d ∷ []) (drop (i + 1) xs))
    ∙ ap (λ l. map byte (l ++ drop (i + 1) xs)) (sym (take_more xs i d h)) ∙ ap (map byte) (take-append-drop (i + 1) xs)
