-- Lists, and what their elements mean.
use Rattle.std.proofs.Common.{◌≡◌, ◌+◌, Bool, List, [], ◌∷◌, ap, arith, cond, false, filter, get_or, map, refl, subst, suc, sym, true, zero}
use Rattle.std.specs.Cmp.Lexicographic.{slice_cmp}
use Rattle.std.specs.List.Sorted.{IsSortedByKey}
use Rattle.std.specs.Ordering.{is_lt, nat_cmp}
use Rattle.clap.specs.Words.{Text}

-- a test of what an element means, and what the elements that pass it mean
pub filter-viewed : {A B : Type 0} (view : A → B) (test : B → Bool) (xs : List A)
    → map view (filter (λ x. test (view x)) xs) ≡ filter test (map view xs)
filter-viewed view test [] = refl
filter-viewed view test (x ∷ xs) =
    let rest = filter-viewed view test xs in
    elim (test (view x)) as (λ (t : Bool). map view (cond t (x ∷ filter (λ y. test (view y)) xs) (filter (λ y. test (view y)) xs))
    ≡ cond t (view x ∷ filter test (map view xs)) (filter test (map view xs))) [
      | true ↦ ap (λ ys. view x ∷ ys) rest
      | false ↦ rest
    ]

-- what is made of what elements mean
pub map-seen : {A B C : Type 0} (view : A → B) (f : B → C) (xs : List A) → map (λ x. f (view x)) xs ≡ map f (map view xs)
map-seen view f [] = refl
map-seen view f (x ∷ xs) = ap (λ ys. f (view x) ∷ ys) (map-seen view f xs)

list_head : {A : Type 0} {x y : A} {xs ys : List A} → x ∷ xs ≡ y ∷ ys → x ≡ y
list_head same = cc

list_tail : {A : Type 0} {x y : A} {xs ys : List A} → x ∷ xs ≡ y ∷ ys → xs ≡ ys
list_tail same = cc

module _ {A B : Type 0} (one : A → Text) (other : B → Text) where
  -- without its first one a list is in order
  tail_order : (x : A) (xs : List A) → IsSortedByKey one (slice_cmp nat_cmp) (x ∷ xs) → IsSortedByKey one (slice_cmp nat_cmp) xs
  tail_order x xs up k d low high =
      let e : suc k + 1 ≡ suc (k + 1) = omega arith in
      subst (λ n. is_lt (slice_cmp nat_cmp (one (get_or (x ∷ xs) n d)) (one (get_or xs k d))) ≡ false) e
      (up (suc k) d (omega arith) (omega (arith, high)))

  -- the order of texts is that of others that are equal to them
  pub same_order : (xs : List A) (ys : List B) → map one xs ≡ map other ys → IsSortedByKey one (slice_cmp nat_cmp) xs
      → IsSortedByKey other (slice_cmp nat_cmp) ys
  same_order xs [] same up k d low high = absurd (omega (arith, high))
  same_order xs (y ∷ []) same up k d low high = absurd (omega (arith, high))
  same_order [] (y ∷ z ∷ ys) same up k d low high = absurd (cc)
  same_order (w ∷ []) (y ∷ z ∷ ys) same up k d low high = absurd (cc)
  same_order (w ∷ x ∷ xs) (y ∷ z ∷ ys) same up zero d low high =
      let first : one w ≡ other y = list_head same in
      let second : one x ≡ other z = list_head (list_tail same) in
      subst (λ (t : Text). is_lt (slice_cmp nat_cmp (other z) t) ≡ false) first
      (subst (λ (t : Text). is_lt (slice_cmp nat_cmp t (one w)) ≡ false) second (up zero w (omega arith) (omega arith)))
  same_order (w ∷ x ∷ xs) (y ∷ z ∷ ys) same up (suc k) d low high =
      let e : suc k + 1 ≡ suc (k + 1) = omega arith in
      subst (λ n. is_lt (slice_cmp nat_cmp (other (get_or (y ∷ z ∷ ys) n d)) (other (get_or (z ∷ ys) k d))) ≡ false) (sym e)
      (same_order (x ∷ xs) (z ∷ ys) (list_tail same) (tail_order w (x ∷ xs) up) k d (omega arith) (omega (arith, high)))
