-- The elements of a list that pass a test, one after another.
use Rattle.std.proofs.Common.{◌≡◌, ◌∙◌, ℕ, ◌+◌, ◌<◌, Bool, true, false, List, [], ◌∷◌, ◌++◌, ap, append-nil, cond, get_or, length, map, sym, take}
use Rattle.std.proofs.lemmas.List.{map-append, take_more}
use Rattle.std.proofs.lemmas.List.Elements.{filter-append, filter_more}
use Rattle.std.specs.Prelude.{filter, not}
use Rattle.pam_findings.specs.accepted.Lines.{Accepted}
use Rattle.pam_report.specs.Accepting.{accepts}

module _ {A : Type 0} (p : A → Bool) (xs : List A) (i : ℕ) (d : A) (kept : List A) where
  pub kept-with : i < length xs → kept ≡ filter p (take i xs) → p (get_or xs i d) ≡ true → kept ++ get_or xs i d ∷ [] ≡ filter p (take (i + 1) xs)
  kept-with h e t =
      let x = get_or xs i d in
      ap (λ (l : List A). l ++ x ∷ []) e ∙ sym (filter_more p xs i d h ∙ ap (λ (b : Bool). filter p (take i xs) ++ cond b (x ∷ []) []) t)

  pub kept-without : i < length xs → kept ≡ filter p (take i xs) → p (get_or xs i d) ≡ false → kept ≡ filter p (take (i + 1) xs)
  kept-without h e t =
      let x = get_or xs i d in
      e ∙ sym (filter_more p xs i d h ∙ ap (λ (b : Bool). filter p (take i xs) ++ cond b (x ∷ []) []) t ∙ append-nil (filter p (take i xs)))

-- what has a key that no line has, one after another
module _ {A : Type 0} (lines : List Accepted) (key : A → List ℕ) (xs : List A) (i : ℕ) (x : A) (kept : List A) where
  abbrev is_left : A → Bool
  is_left one = not (accepts lines (key one))

  pub unaccepted-with : i < length xs → x ≡ get_or xs i x → kept ≡ filter is_left (take i xs) → accepts lines (key x) ≡ false →
      kept ++ x ∷ [] ≡ filter is_left (take (i + 1) xs)
  unaccepted-with h is e f =
      ap (λ (y : A). kept ++ y ∷ []) is ∙ kept-with is_left xs i x kept h e (ap is_left (sym is) ∙ ap not f)

  pub unaccepted-without : i < length xs → x ≡ get_or xs i x → kept ≡ filter is_left (take i xs) → accepts lines (key x) ≡ true →
      kept ≡ filter is_left (take (i + 1) xs)
  unaccepted-without h is e t = kept-without is_left xs i x kept h e (ap is_left (sym is) ∙ ap not t)

-- the numbers of the views that pass a test, one after another
module _ {A B : Type 0} (view : A → B) (number : B → ℕ) (p : B → Bool) (xs : List A) (i : ℕ) (d : A) where
  abbrev numbers : List A → List ℕ
  numbers ys = map number (filter p (map view ys))

  one-more : i < length xs → numbers (take (i + 1) xs) ≡ map number (filter p (map view (take i xs)) ++ filter p (view (get_or xs i d) ∷ []))
  one-more h =
      ap numbers (take_more xs i d h)
      ∙ ap (λ (l : List B). map number (filter p l)) (map-append view (take i xs) (get_or xs i d ∷ []))
      ∙ ap (map number) (filter-append p (map view (take i xs)) (view (get_or xs i d) ∷ []))

  pub number-with : (kept : List ℕ) → i < length xs → kept ≡ numbers (take i xs) → p (view (get_or xs i d)) ≡ true
      → kept ++ number (view (get_or xs i d)) ∷ [] ≡ numbers (take (i + 1) xs)
  number-with kept h e t =
      let y = view (get_or xs i d) in
      let before = filter p (map view (take i xs)) in
      ap (λ (l : List ℕ). l ++ number y ∷ []) e
      ∙ sym (one-more h ∙ ap (λ (b : Bool). map number (before ++ cond b (y ∷ []) [])) t ∙ map-append number before (y ∷ []))

  pub number-without : (kept : List ℕ) → i < length xs → kept ≡ numbers (take i xs) → p (view (get_or xs i d)) ≡ false
      → kept ≡ numbers (take (i + 1) xs)
  number-without kept h e t =
      let y = view (get_or xs i d) in
      let before = filter p (map view (take i xs)) in
      e ∙ sym (one-more h ∙ ap (λ (b : Bool). map number (before ++ cond b (y ∷ []) [])) t ∙ ap (map number) (append-nil before))
