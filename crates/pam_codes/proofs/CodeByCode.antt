-- A set of the codes that pass a test, built code by code.
use Rattle.std.proofs.Common.{◌≡◌, ◌≢◌, ℕ, ◌+◌, ◌≤◌, ◌==◌, ◌&&◌, ◌||◌, Bool, true, false, List, [], ltb, refl, sym, ◌∙◌, ap, arith, inl, inr}
use Rattle.std.proofs.lemmas.Bool.{eq-eqb, ne_eqb, lt-ltb, le-ltb, cases_lt, cases_eq, and_from, or_left}
use Rattle.pam_codes.specs.Code.{all_codes}
use Rattle.pam_codes.specs.Set.{codes_where, is_in}
use Rattle.pam_codes.specs.inner.SetBits.{is_in-codes_where, codes_where-same}

both_false : (x y : Bool) → (x && false) ≡ (y && false)
both_false true true = refl
both_false true false = refl
both_false false true = refl
both_false false false = refl

module _ (test : ℕ → Bool) where
  -- the codes below a number that pass
  abbrev pub passed_below : ℕ → List ℕ
  passed_below n = codes_where (λ c. ltb c n && test c)

  pub none_passed : (none : List ℕ) → none ≡ [] → none ≡ passed_below 0
  unfolding all_codes
  none_passed none e = e ∙ codes_where-same (λ c. false) (λ c. ltb c 0 && test c) (λ c l. sym (ap (λ (b : Bool). b && test c) (le-ltb c 0 (omega arith))))

  pub all_passed : (n : ℕ) → 31 ≤ n → passed_below n ≡ codes_where test
  all_passed n h = codes_where-same _ _ (λ c l. ap (λ (b : Bool). b && test c) (lt-ltb c n (omega arith)))

  -- a code other than `n` is below `n` if and only if it is below `n + 1`
  one_more : (n c : ℕ) → c ≢ n → ltb c n ≡ ltb c (n + 1)
  one_more n c ne = elim (cases_lt c n) [
    | inl l ↦ lt-ltb c n l ∙ sym (lt-ltb c (n + 1) (omega arith))
    | inr l ↦ le-ltb c n l ∙ sym (le-ltb c (n + 1) (omega (arith, ne)))
  ]

  pub passed_over : (n : ℕ) → test n ≡ false → passed_below n ≡ passed_below (n + 1)
  passed_over n fails = codes_where-same _ _ (λ c l. elim (cases_eq c n) [
    | inl e ↦
        ap (λ (b : Bool). ltb c n && b) (ap test e ∙ fails) ∙ both_false (ltb c n) (ltb c (n + 1))
        ∙ sym (ap (λ (b : Bool). ltb c (n + 1) && b) (ap test e ∙ fails))
    | inr ne ↦ ap (λ (b : Bool). b && test c) (one_more n c ne)
  ])

  pub put_in : (n : ℕ) (old new : List ℕ) → test n ≡ true → old ≡ passed_below n →
      new ≡ codes_where (λ c. c == n || is_in c old) → new ≡ passed_below (n + 1)
  put_in n old new passes was is = is ∙ codes_where-same _ _ (λ c l. elim (cases_eq c n) [
    | inl e ↦
        or_left (c == n) (is_in c old) (eq-eqb c n e)
        ∙ sym (and_from (ltb c (n + 1)) (test c) (lt-ltb c (n + 1) (omega arith)) (ap test e ∙ passes))
    | inr ne ↦
        ap (λ (b : Bool). b || is_in c old) (ne_eqb c n ne)
        ∙ ap (is_in c) was
        ∙ is_in-codes_where (λ x. ltb x n && test x) c l
        ∙ ap (λ (b : Bool). b && test c) (one_more n c ne)
  ])
