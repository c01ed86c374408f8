-- The numbers of modules that pass a test, one by one.
use Rattle.std.proofs.Common.{◌≡◌, ◌∙◌, ℕ, ◌+◌, Bool, true, false, List, [], ◌∷◌, ◌++◌, append-nil, cond, filter, filter_map, ap, sym, refl}
use Rattle.std.proofs.Common.{Option, Some, None}
use Rattle.std.specs.List.{range_with_len}
use Rattle.pam_compare.proofs.Ranges.{filter-more, range-more}

module _ (test : ℕ → Bool) (n j : ℕ) (next : n + 1 ≡ j) (xs ys : List ℕ) (so : xs ≡ filter test (range_with_len 1 n)) where
  pub passes : test j ≡ true → ys ≡ xs ++ j ∷ [] → ys ≡ filter test (range_with_len 1 j)
  passes t is =
      is ∙ ap (λ (l : List ℕ). l ++ j ∷ []) so
      ∙ sym (filter-more test n j next ∙ ap (λ (b : Bool). filter test (range_with_len 1 n) ++ cond b (j ∷ []) []) t)

  pub fails : test j ≡ false → ys ≡ xs → ys ≡ filter test (range_with_len 1 j)
  fails t is =
      is ∙ so
      ∙ sym (filter-more test n j next ∙ ap (λ (b : Bool). filter test (range_with_len 1 n) ++ cond b (j ∷ []) []) t
      ∙ append-nil (filter test (range_with_len 1 n)))

map-append : {X : Type 0} (f : ℕ → Option X) (xs ys : List ℕ) → filter_map f (xs ++ ys) ≡ filter_map f xs ++ filter_map f ys
map-append f [] ys = refl
map-append {X} f (x ∷ xs) ys = by-value (f x) refl (map-append f xs ys)
  where
    by-value : (o : Option X) → f x ≡ o → filter_map f (xs ++ ys) ≡ filter_map f xs ++ filter_map f ys →
        filter_map f (x ∷ (xs ++ ys)) ≡ filter_map f (x ∷ xs) ++ filter_map f ys
    by-value None e again = rw e again
    by-value (Some v) e again = rw e (ap (λ (l : List X). v ∷ l) again)

module _ {X : Type 0} (f : ℕ → Option X) (n j : ℕ) (next : n + 1 ≡ j) (xs ys : List X) (so : xs ≡ filter_map f (range_with_len 1 n)) where
  more : filter_map f (range_with_len 1 j) ≡ filter_map f (range_with_len 1 n) ++ filter_map f (j ∷ [])
  more = ap (filter_map f) (range-more n j next) ∙ map-append f (range_with_len 1 n) (j ∷ [])

  pub gives : (x : X) → f j ≡ Some x → ys ≡ xs ++ x ∷ [] → ys ≡ filter_map f (range_with_len 1 j)
  gives x e is = is ∙ ap (λ (l : List X). l ++ x ∷ []) so ∙ sym (more ∙ rw e refl)

  pub gives-none : f j ≡ None → ys ≡ xs → ys ≡ filter_map f (range_with_len 1 j)
  gives-none e is = is ∙ so ∙ sym (more ∙ rw e (append-nil (filter_map f (range_with_len 1 n))))
