-- Names that are sorted, and of which each is then kept once.
use Rattle.std.proofs.Common.{◌≡◌, ◌∙◌, ◌↔◌, Bool, List, [], ◌∷◌, ap, cond, false, map, refl, subst, sym, true}
use Rattle.std.proofs.Common.{Ordering, Less, Equal, Greater, ◌+◌, arith, suc, zero}
use Rattle.std.proofs.lemmas.Cmp.{nat_list_cmp_total, nat_list_eq_equiv}
use Rattle.std.proofs.lemmas.List.Kept.{Contains-dedup, Contains-from_dedup, IsStrictlySortedBy-dedup}
use Rattle.std.proofs.lemmas.List.Sorted.{Contains-permutation, IsPermutation-map, IsPermutation-sym}
use Rattle.std.proofs.lemmas.Slice.Eq.{bytes_eq-Decides}
use Rattle.std.specs.Cmp.Lexicographic.{on_texts, slice_cmp, texts_ties}
use Rattle.std.specs.List.{AllByRecursion, Contains, dedup, dedup_from}
use Rattle.std.specs.List.Sorted.{IsPermutation, IsSorted, IsSortedByKey, IsStrictlySortedBy}
use Rattle.std.specs.Ordering.{is_lt, nat_cmp, ordering_reverse}
use Rattle.std.specs.Str.{bytes_eq}
use Rattle.clap.specs.Words.{Text}

-- both ways of a choice are equal
cond_same : {X : Type 0} (b : Bool) {u v w x : X} → u ≡ w → v ≡ x → cond b u v ≡ cond b w x
cond_same true one other = one
cond_same false one other = other

module _ {A : Type 0} (text : A → Text) where
  abbrev same : A → A → Bool
  same x y = bytes_eq (text x) (text y)

  map-cond : (b : Bool) (u v : List A) → map text (cond b u v) ≡ cond b (map text u) (map text v)
  map-cond true u v = refl
  map-cond false u v = refl

  map-dedup_from : (k : A) (xs : List A) → map text (dedup_from same k xs) ≡ dedup_from bytes_eq (text k) (map text xs)
  map-dedup_from k [] = refl
  map-dedup_from k (x ∷ xs) =
      let other : text k ∷ map text (dedup_from same x xs) ≡ text k ∷ dedup_from bytes_eq (text x) (map text xs) = ap (λ l. text k ∷ l) (map-dedup_from x xs) in
      map-cond (same x k) (dedup_from same k xs) (k ∷ dedup_from same x xs) ∙ cond_same (same x k) (map-dedup_from k xs) other

  map-dedup : (xs : List A) → map text (dedup same xs) ≡ dedup bytes_eq (map text xs)
  map-dedup [] = refl
  map-dedup (x ∷ xs) = map-dedup_from x xs

  all_texts : (P : Text → Type 0) (xs : List A) → AllByRecursion (λ x. P (text x)) xs → AllByRecursion P (map text xs)
  all_texts P [] h = tt
  all_texts P (x ∷ xs) h = (h.0, all_texts P xs h.1)

  rising_texts : (xs : List A) → IsStrictlySortedBy (λ x y. slice_cmp nat_cmp (text x) (text y)) xs → IsStrictlySortedBy (slice_cmp nat_cmp) (map text xs)
  unfolding IsStrictlySortedBy
  rising_texts [] h = tt
  rising_texts (x ∷ xs) h = (all_texts (λ y. slice_cmp nat_cmp (text x) y ≡ Less) xs h.0, rising_texts xs h.1)

  -- of names that are sorted, each is kept once
  pub rising : (sorted kept : List A) → IsSorted (λ x y. slice_cmp nat_cmp (text x) (text y)) sorted → kept ≡ dedup same sorted
      → IsStrictlySortedBy (slice_cmp nat_cmp) (map text kept)
  rising sorted kept up is =
      subst (λ (ns : List A). IsStrictlySortedBy (slice_cmp nat_cmp) (map text ns)) (sym is)
      (rising_texts (dedup same sorted) (IsStrictlySortedBy-dedup (on_texts text) (λ x y. texts_ties (text x) (text y)) sorted up))

  -- and none is lost
  pub those : (all : List Text) (found sorted kept : List A) → map text found ≡ all → IsPermutation found sorted → kept ≡ dedup same sorted
      → (name : Text) → Contains (map text kept) name ↔ Contains all name
  those all found sorted kept all_is moved is name =
      let kept_is : map text kept ≡ dedup bytes_eq (map text sorted) = ap (map text) is ∙ map-dedup sorted in
      let moved_texts : IsPermutation (map text found) (map text sorted) = IsPermutation-map text found sorted moved in
      let back : IsPermutation (map text sorted) (map text found) = IsPermutation-sym (map text found) (map text sorted) moved_texts in (
        λ h.
            let of_sorted = Contains-from_dedup bytes_eq (map text sorted) name (subst (λ (ns : List Text). Contains ns name) kept_is h) in
            subst (λ (ns : List Text). Contains ns name) all_is (Contains-permutation (map text sorted) (map text found) name back of_sorted),
        λ h.
            let of_found : Contains (map text found) name = subst (λ (ns : List Text). Contains ns name) (sym all_is) h in
            let of_sorted = Contains-permutation (map text found) (map text sorted) name moved_texts of_found in
            subst (λ (ns : List Text). Contains ns name) (sym kept_is)
            (Contains-dedup nat_list_eq_equiv (λ x y. (bytes_eq-Decides x y).0) (map text sorted) name of_sorted),
      )

module _ {A : Type 0} (text : A → Text) where
  not_before : (o : Ordering) → ordering_reverse o ≡ Less → is_lt o ≡ false
  not_before Less h = absurd (cc)
  not_before Equal h = refl
  not_before Greater h = refl

  -- names that rise strictly are in order
  pub in_order : (xs : List A) → IsStrictlySortedBy (slice_cmp nat_cmp) (map text xs) → IsSortedByKey text (slice_cmp nat_cmp) xs
  unfolding IsStrictlySortedBy
  in_order [] up k d low high = absurd (omega (arith, high))
  in_order (x ∷ []) up k d low high = absurd (omega (arith, high))
  in_order (x ∷ y ∷ xs) up zero d low high =
      not_before (slice_cmp nat_cmp (text y) (text x)) (sym (nat_list_cmp_total.antisymm (text x) (text y)) ∙ up.0.0)
  in_order (x ∷ y ∷ xs) up (suc k) d low high =
      let e : suc k + 1 ≡ suc (k + 1) = omega arith in rw e (in_order (y ∷ xs) up.1 k d (omega arith) (omega (arith, high)))
