-- The numbers of a range that pass a test, number by number.
use Rattle.std.proofs.Common.{◌≡◌, ℕ, ◌+◌, Bool, true, false, filter, List, [], ◌∷◌, ◌++◌, sym, ◌∙◌, ap, arith, append-nil, cond, suc, zero}
use Rattle.std.proofs.lemmas.List.Elements.{filter-append}
use Rattle.std.specs.List.{range_with_len}

range-push : (a n : ℕ) → range_with_len a (suc n) ≡ range_with_len a n ++ (a + n) ∷ []
range-push a zero = let same : a ≡ a + 0 = omega arith in ap (λ (x : ℕ). x ∷ []) same
range-push a (suc n) =
    let same : (a + 1) + n ≡ a + suc n = omega arith in
    ap (λ (xs : List ℕ). a ∷ xs) (range-push (a + 1) n) ∙ ap (λ (x : ℕ). a ∷ (range_with_len (a + 1) n ++ x ∷ [])) same

module _ (test : ℕ → Bool) (n : ℕ) (old : List ℕ) (so : old ≡ filter test (range_with_len 1 n)) where
  more : filter test (range_with_len 1 (n + 1)) ≡ old ++ filter test ((n + 1) ∷ [])
  more =
      let next : n + 1 ≡ suc n = omega arith in
      let last : 1 + n ≡ n + 1 = omega arith in
      ap (λ (k : ℕ). filter test (range_with_len 1 k)) next
      ∙ ap (filter test) (range-push 1 n)
      ∙ ap (λ (k : ℕ). filter test (range_with_len 1 n ++ k ∷ [])) last
      ∙ filter-append test (range_with_len 1 n) ((n + 1) ∷ [])
      ∙ ap (λ (xs : List ℕ). xs ++ filter test ((n + 1) ∷ [])) (sym so)

  pub more-passes : (new : List ℕ) → test (n + 1) ≡ true → new ≡ old ++ (n + 1) ∷ [] → new ≡ filter test (range_with_len 1 (n + 1))
  more-passes new t is = is ∙ sym (more ∙ ap (λ (b : Bool). old ++ cond b ((n + 1) ∷ []) []) t)

  pub more-fails : (new : List ℕ) → test (n + 1) ≡ false → new ≡ old → new ≡ filter test (range_with_len 1 (n + 1))
  more-fails new t is = is ∙ sym (more ∙ ap (λ (b : Bool). old ++ cond b ((n + 1) ∷ []) []) t ∙ append-nil old)
