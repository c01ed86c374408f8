-- Names in rising byte order.
use Rattle.std.proofs.Common.{◌≡◌, ◌∙◌, ◌++◌, ◌+◌, ◌<◌, Bool, false, List, [], ◌∷◌, ℕ, suc, arith, get_or, length, map, refl, sym}
use Rattle.std.proofs.Common.{Ordering, Less, Equal, Greater}
use Rattle.std.proofs.lemmas.Cmp.{nat_list_cmp_total}
use Rattle.std.proofs.lemmas.List.Sorted.{ranks_by, sorted_far}
use Rattle.std.specs.Cmp.Lexicographic.{slice_cmp, texts_ties}
use Rattle.std.specs.List.{AllByRecursion, list_any}
use Rattle.std.specs.List.Sorted.{IsSortedByKey, IsStrictlySortedBy}
use Rattle.std.specs.Ordering.{is_eq, is_lt, nat_cmp, ordering_reverse}
use Rattle.std.specs.Str.{bytes_eq}
use Rattle.pam_cli.specs.Sources.{AreInOrder}
use Rattle.pam_cli.proofs.Added.{first_of_none, second_of_none}

abbrev Name : Type 0
Name = List ℕ

abbrev comes_before : Name → Name → Bool
comes_before x y = is_lt (slice_cmp nat_cmp x y)

module _ {X : Type 0} (P : X → Type 0) where
  all_without : (xs : List X) (y : X) (ys : List X) → AllByRecursion P (xs ++ y ∷ ys) → AllByRecursion P (xs ++ ys)
  all_without [] y ys h = h.1
  all_without (x ∷ xs) y ys h = (h.0, all_without xs y ys h.1)

  one_inside : (xs : List X) (y : X) (ys : List X) → AllByRecursion P (xs ++ y ∷ ys) → P y
  one_inside [] y ys h = h.0
  one_inside (x ∷ xs) y ys h = one_inside xs y ys h.1

  pub all_with : (xs : List X) (y : X) → AllByRecursion P xs → P y → AllByRecursion P (xs ++ y ∷ [])
  all_with [] y h p = (p, tt)
  all_with (x ∷ xs) y h p = (h.0, all_with xs y h.1 p)

-- names in order without one of them
pub without : (xs : List Name) (y : Name) (ys : List Name) → AreInOrder (xs ++ y ∷ ys) → AreInOrder (xs ++ ys)
without [] y ys h = h.1
without (x ∷ xs) y ys h = (all_without (λ z. comes_before z x ≡ false) xs y ys h.0, without xs y ys h.1)

greater : (o : Ordering) → is_lt o ≡ false → is_eq o ≡ false → ordering_reverse o ≡ Less
greater Less l e = absurd (cc)
greater Equal l e = absurd (cc)
greater Greater l e = refl

comes_after : (x y : Name) → comes_before y x ≡ false → bytes_eq y x ≡ false → slice_cmp nat_cmp x y ≡ Less
comes_after x y earlier other =
    (nat_list_cmp_total).antisymm x y ∙ greater (slice_cmp nat_cmp y x) earlier (sym (texts_ties y x) ∙ other)

-- a name that is none of those before it comes after them
pub rising-with : (xs : List Name) (y : Name) (ys : List Name) → IsStrictlySortedBy (slice_cmp nat_cmp) xs → AreInOrder (xs ++ y ∷ ys)
    → list_any (bytes_eq y) xs ≡ false → IsStrictlySortedBy (slice_cmp nat_cmp) (xs ++ y ∷ [])
unfolding IsStrictlySortedBy
rising-with [] y ys up order new = (tt, tt)
rising-with (x ∷ xs) y ys up order new =
    let after = comes_after x y (one_inside (λ z. comes_before z x ≡ false) xs y ys order.0) (first_of_none (bytes_eq y x) (list_any (bytes_eq y) xs) new) in (
      all_with (λ z. slice_cmp nat_cmp x z ≡ Less) xs y up.0 after,
      rising-with xs y ys up.1 order.1 (second_of_none (bytes_eq y x) (list_any (bytes_eq y) xs) new),
    )

module _ {A : Type 0} (text : A → Name) where
  all_of : (P : Name → Type 0) (xs : List A) → ((k : ℕ) (d : A) → k < length xs → P (text (get_or xs k d))) → AllByRecursion P (map text xs)
  all_of P [] h = tt
  all_of P (x ∷ xs) h = (h 0 x (omega arith), all_of P xs (λ k d low. h (suc k) d (omega (arith, low))))

  -- what a sort leaves is in order
  pub in_order : (xs : List A) → IsSortedByKey text (slice_cmp nat_cmp) xs → AreInOrder (map text xs)
  in_order [] up = tt
  in_order (x ∷ xs) up =
      let far = sorted_far (λ y z. comes_before (text y) (text z)) (ranks_by nat_list_cmp_total text) (x ∷ xs) up in (
        all_of (λ y. comes_before y (text x) ≡ false) xs (λ k d low. far 0 (suc k) d (omega arith) (omega (arith, low))),
        in_order xs (λ k d low high. let e : suc k + 1 ≡ suc (k + 1) = omega arith in rw e at (up (suc k) d (omega arith) (omega (arith, high)))),
      )
