-- Codes that are alone in their class.
use Rattle.std.proofs.Common.{◌≡◌, ℕ, ◌<◌, ◌≤◌, ◌==◌, ◌||◌, Bool, true, false, List, [], ◌∷◌, length, cond, inl, inr, arith, refl, sym, ap, ◌∙◌}
use Rattle.std.specs.Prelude.{nat_le}
use Rattle.std.proofs.lemmas.Bool.{cases_Bool, cond-false, cond-true, eqb-true, false≢true, leb-true, or_cases}
use Rattle.pam_codes.specs.Set.{codes_where, is_in}
use Rattle.pam_codes.specs.inner.SetBits.{is_in-codes_where}
use Rattle.pam_dispatch.specs.Runs.{Ask, outcome_of}
use Rattle.pam_paths.specs.Classes.{class_at, class_of}
use Rattle.pam_paths.proofs.OfferedCodes.{class-whole}

-- codes that were seen, and are in no class of several, are alone
abbrev pub IsAlone : Ask → List ℕ → List ℕ → Type 0
IsAlone ask seen shared = (d : ℕ) → d < 31 → is_in d seen ≡ true → is_in d shared ≡ false → class_of ask d ≡ d ∷ []

no-left : (a b : Bool) → (a || b) ≡ false → a ≡ false
no-left true b h = h
no-left false b h = refl

no-right : (a b : Bool) → (a || b) ≡ false → b ≡ false
no-right true b h = absurd (false≢true (sym h))
no-right false b h = h

one-only : (class : List ℕ) (d : ℕ) → length class ≤ 1 → is_in d class ≡ true → class ≡ d ∷ []
one-only [] d few h = absurd (false≢true h)
one-only (c ∷ []) d few h = elim (or_cases (c == d) false h) [
  | inl e ↦ ap (λ (x : ℕ). x ∷ []) (eqb-true c d e)
  | inr e ↦ absurd (false≢true e)
]
one-only (c ∷ e ∷ class) d few h = absurd (omega (arith, few))

module _ (ask : Ask) (seen seen_now shared shared_now : List ℕ) where
  pub alone-kept : seen_now ≡ seen → shared_now ≡ shared → IsAlone ask seen shared → IsAlone ask seen_now shared_now
  alone-kept same other was d low inside outside =
      was d low (sym (ap (is_in d) same) ∙ inside) (sym (ap (is_in d) other) ∙ outside)

  -- the class of one more code
  pub alone-more : (class : List ℕ) (code : ℕ) → class ≡ class_at ask (outcome_of ask code) →
      seen_now ≡ codes_where (λ d. is_in d seen || is_in d class) →
      shared_now ≡ cond (nat_le (length class) 1) shared (codes_where (λ d. is_in d shared || is_in d class)) →
      IsAlone ask seen shared → IsAlone ask seen_now shared_now
  alone-more class code is more several was d low inside outside =
      let either = sym (ap (is_in d) more ∙ is_in-codes_where (λ x. is_in x seen || is_in x class) d low) ∙ inside in
      elim (cases_Bool (nat_le (length class) 1)) [
        | inl few ↦
            let same : shared_now ≡ shared = several ∙ cond-true (nat_le (length class) 1) _ _ few in
            elim (or_cases (is_in d seen) (is_in d class) either) [
              | inl s ↦ was d low s (sym (ap (is_in d) same) ∙ outside)
              | inr k ↦ class-whole ask class code d is low k ∙ one-only class d (leb-true (length class) 1 few) k
            ]
        | inr many ↦
            let both = several ∙ cond-false (nat_le (length class) 1) shared (codes_where (λ x. is_in x shared || is_in x class)) many in
            let none = sym (ap (is_in d) both ∙ is_in-codes_where (λ x. is_in x shared || is_in x class) d low) ∙ outside in
            elim (or_cases (is_in d seen) (is_in d class) either) [
              | inl s ↦ was d low s (no-left (is_in d shared) (is_in d class) none)
              | inr k ↦ absurd (false≢true (sym (no-right (is_in d shared) (is_in d class) none) ∙ k))
            ]
      ]

-- and those that were not seen
pub alone-all : (ask : Ask) (seen shared : List ℕ) → IsAlone ask seen shared →
    ((d : ℕ) → d < 31 → is_in d seen ≡ false → class_of ask d ≡ d ∷ []) → (d : ℕ) → d < 31 → is_in d shared ≡ false → class_of ask d ≡ d ∷ []
alone-all ask seen shared was others d low outside = elim (cases_Bool (is_in d seen)) [
  | inl s ↦ was d low s outside
  | inr none ↦ others d low none
]
