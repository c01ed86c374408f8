-- The text of a list, element by element.
use Rattle.std.proofs.Common.{◌≡◌, ℕ, ◌+◌, ◌<◌, List, [], ◌∷◌, ◌++◌, length, take, drop, get_or, refl, sym, ap, ◌∙◌, append-nil, map}
use Rattle.std.proofs.lemmas.List.{take-append-drop, take_more}
use Rattle.std.proofs.lemmas.Grind.{flat_map-append}
use Rattle.std.specs.List.{flat_map}

module _ {A : Type 0} (text : A → List ℕ) where
  flat_map-one : (x : A) → flat_map text (x ∷ []) ≡ text x
  flat_map-one x = append-nil (text x)

  -- one more element
  pub flat_map-push : (xs : List A) (x : A) → flat_map text (xs ++ x ∷ []) ≡ flat_map text xs ++ text x
  flat_map-push xs x = flat_map-append text xs (x ∷ []) ∙ ap (λ l. flat_map text xs ++ l) (flat_map-one x)

  pub flat_map-take : (xs : List A) (i : ℕ) (d : A) → i < length xs
      → flat_map text (take (i + 1) xs) ≡ flat_map text (take i xs) ++ text (get_or xs i d)
  flat_map-take xs i d h = ap (flat_map text) (take_more xs i d h) ∙ flat_map-push (take i xs) (get_or xs i d)

  -- the elements before the i-th, that element and the others
  pub flat_map-at : (xs : List A) (i : ℕ) (d : A) → i < length xs
      → (flat_map text (take i xs) ++ text (get_or xs i d)) ++ flat_map text (drop (i + 1) xs) ≡ flat_map text xs
  flat_map-at xs i d h =
      ap (λ l. l ++ flat_map text (drop (i + 1) xs)) (sym (flat_map-take xs i d h)) ∙ sym (flat_map-append text (take (i + 1) xs) (drop (i + 1) xs))
      ∙ ap (flat_map text) (take-append-drop (i + 1) xs)

-- the text of each element, by a view of it
pub flat_map-seen : {A B : Type 0} (text : B → List ℕ) (seen : A → B) (xs : List A) → flat_map text (map seen xs) ≡ flat_map (λ x. text (seen x)) xs
flat_map-seen text seen [] = refl
flat_map-seen text seen (x ∷ xs) = ap (λ l. text (seen x) ++ l) (flat_map-seen text seen xs)

-- the elements before the i-th, that element and the others, by their views
pub flat_map-seen_at : {A B : Type 0} (text : B → List ℕ) (seen : A → B) (xs : List A) (i : ℕ) (d : A) → i < length xs
    → (flat_map text (map seen (take i xs)) ++ text (seen (get_or xs i d))) ++ flat_map text (map seen (drop (i + 1) xs)) ≡ flat_map text (map seen xs)
flat_map-seen_at text seen xs i d h =
    rw (flat_map-seen text seen (take i xs), flat_map-seen text seen (drop (i + 1) xs), flat_map-seen text seen xs)
    (flat_map-at (λ x. text (seen x)) xs i d h)
