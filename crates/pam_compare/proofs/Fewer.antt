-- Sets from which codes are taken.
use Rattle.std.proofs.Common.{◌≡◌, ◌<◌, ◌≤◌, ◌∙◌, ◌&&◌, ◌||◌, ℕ, Bool, true, false, cond, eqb, List, [], ◌∷◌, length, filter, ap, arith, refl, subst, sym}
use Rattle.std.specs.Prelude.{not}
use Rattle.std.proofs.lemmas.Bool.{eqb-true, false≢true}
use Rattle.pam_codes.specs.Code.{all_codes}
use Rattle.pam_codes.specs.Set.{codes_where, is_in}
use Rattle.pam_codes.specs.inner.SetBits.{codes_where-same, is_in-codes_where}

module _ (p q : ℕ → Bool) (less : (c : ℕ) → q c ≡ true → p c ≡ true) where
  no-more-by : (x : ℕ) (xs : List ℕ) (s t : Bool) → (t ≡ true → s ≡ true) → length (filter q xs) ≤ length (filter p xs) →
      length (cond t (x ∷ filter q xs) (filter q xs)) ≤ length (cond s (x ∷ filter p xs) (filter p xs))
  no-more-by x xs true true h rest = omega (arith, rest)
  no-more-by x xs true false h rest = omega (arith, rest)
  no-more-by x xs false true h rest = absurd (false≢true (h refl))
  no-more-by x xs false false h rest = rest

  no-more : (xs : List ℕ) → length (filter q xs) ≤ length (filter p xs)
  no-more [] = omega arith
  no-more (x ∷ xs) = no-more-by x xs (p x) (q x) (less x) (no-more xs)

  later : (x : ℕ) (xs : List ℕ) (s t : Bool) → (t ≡ true → s ≡ true) → length (filter q xs) < length (filter p xs) →
      length (cond t (x ∷ filter q xs) (filter q xs)) < length (cond s (x ∷ filter p xs) (filter p xs))
  later x xs true true h rest = omega (arith, rest)
  later x xs true false h rest = omega (arith, rest)
  later x xs false true h rest = absurd (false≢true (h refl))
  later x xs false false h rest = rest

  module _ (code : ℕ) (passes : p code ≡ true) (fails : q code ≡ false) where
    here : (x : ℕ) (xs : List ℕ) → x ≡ code → length (filter q (x ∷ xs)) < length (filter p (x ∷ xs))
    here x xs e =
        let s : p x ≡ true = ap p e ∙ passes in
        let t : q x ≡ false = ap q e ∙ fails in
        let rest = no-more xs in
        subst (λ (b : Bool). length (filter q (x ∷ xs)) < length (cond b (x ∷ filter p xs) (filter p xs))) (sym s)
        (subst (λ (b : Bool). length (cond b (x ∷ filter q xs) (filter q xs)) < length (x ∷ filter p xs)) (sym t) (omega (arith, rest)))

    fewer : (xs : List ℕ) → is_in code xs ≡ true → length (filter q xs) < length (filter p xs)
    fewer [] member = absurd (false≢true member)
    fewer (x ∷ xs) member =
        elim (eqb x code) as (λ (b : Bool). eqb x code ≡ b → length (filter q (x ∷ xs)) < length (filter p (x ∷ xs))) [
          | true ↦ λ e. here x xs (eqb-true x code e)
          | false ↦ λ e. later x xs (p x) (q x) (less x) (fewer xs (sym (ap (λ (b : Bool). b || is_in code xs) e) ∙ member))
        ] refl

and-both : (a b : Bool) → (a && b) ≡ true → a ≡ true
and-both true b h = cc
and-both false b h = h

-- the number of codes falls where one of them is taken out
pub fewer-left : (left class after : List ℕ) (code : ℕ) → code < 31 → is_in code left ≡ true → is_in code class ≡ true →
    after ≡ codes_where (λ c. is_in c left && not (is_in c class)) →
    length (codes_where (λ c. is_in c after)) < length (codes_where (λ c. is_in c left))
unfolding all_codes
fewer-left left class after code low inside taken e =
    let test : ℕ → Bool = λ c. is_in c left && not (is_in c class) in
    let same : codes_where (λ c. is_in c after) ≡ codes_where test =
    codes_where-same (λ c. is_in c after) test (λ c below. ap (is_in c) e ∙ is_in-codes_where test c below) in
    let out : test code ≡ false = ap (λ (b : Bool). b && not (is_in code class)) inside ∙ ap (λ (b : Bool). not b) taken in
    let less = fewer (λ c. is_in c left) test (λ c h. and-both (is_in c left) (not (is_in c class)) h) code inside out all_codes
    (is_in-codes_where (λ c. true) code low) in
    subst (λ (l : List ℕ). length l < length (codes_where (λ c. is_in c left))) (sym same) less
