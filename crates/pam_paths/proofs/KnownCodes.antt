-- The codes that a set of known answers allows.
use Rattle.std.proofs.Common.{◌≡◌, ◌≢◌, ℕ, ◌-◌, ◌≤◌, ◌==◌, ◌||◌, Bool, true, false, List, [], ◌∷◌, cond, length, not, zero, suc, refl, sym, ◌∙◌, ap, arith}
use Rattle.std.proofs.Common.{inl, inr, get_or, slice_set, replicate}
use Rattle.std.specs.Prelude.{filter}
use Rattle.std.specs.List.{list_any}
use Rattle.std.proofs.lemmas.Bool.{cases_Bool, cases_eq, cond-true, cond-false, eq-eqb, false≢true, ne_eqb}
use Rattle.std.proofs.lemmas.List.{get_or-set_same, get_or-set_other}
use Rattle.pam_codes.specs.Code.{all_codes}
use Rattle.pam_codes.specs.Set.{codes_where, is_in, IsCodeSet}
use Rattle.pam_codes.specs.inner.SetBits.{codes_where-same}
use Rattle.pam_paths.specs.Known.{answers_by}

none_pass : (test : ℕ → Bool) (xs : List ℕ) → list_any test xs ≡ false → filter test xs ≡ []
none_pass test [] h = refl
none_pass test (x ∷ xs) h =
    elim (cases_Bool (test x)) [
      | inl t ↦ absurd (false≢true (sym h ∙ ap (λ (b : Bool). b || list_any test xs) t))
      | inr f ↦ ap (λ (b : Bool). cond b (x ∷ filter test xs) (filter test xs)) f ∙ none_pass test xs (sym (ap (λ (b : Bool). b || list_any test xs) f) ∙ h)
    ]

pub nothing_set : (codes all : List ℕ) → codes ≡ [] → all ≡ all_codes → all ≡ codes_where (answers_by codes)
unfolding answers_by all_codes
nothing_set codes all e f = f ∙ sym (ap (λ (x : List ℕ). codes_where (answers_by x)) e)

pub something_set : (codes : List ℕ) → IsCodeSet codes → (length codes ≡ 0 → ⊥) → codes ≡ codes_where (answers_by codes)
unfolding answers_by
something_set codes is some =
    let any : list_any (λ c. is_in c codes) all_codes ≡ true = elim (cases_Bool (list_any (λ c. is_in c codes) all_codes)) [
      | inl t ↦ t
      | inr f ↦ absurd (some (ap (λ (x : List ℕ). length x) (is ∙ none_pass (λ c. is_in c codes) all_codes f)))
    ] in
    is ∙ codes_where-same (λ c. is_in c codes) (λ c. is_in c codes || not (list_any (λ d. is_in d codes) all_codes)) (λ c l.
    or_none (is_in c codes) ∙ ap (λ (b : Bool). is_in c codes || not b) (sym any))
  where
    or_none : (b : Bool) → b ≡ (b || not true)
    or_none true = refl
    or_none false = refl

pub none_at : (n i : ℕ) (none : List ℕ) → none ≡ [] → get_or (replicate n none) i [] ≡ []
none_at zero i none e = refl
none_at (suc n) zero none e = e
none_at (suc n) (suc i) none e = none_at n i none e

pub set_at : (sets : List (List ℕ)) (number n : ℕ) (codes : List ℕ) → length sets ≡ 256 → 1 ≤ number → number ≤ 256 → 1 ≤ n →
    get_or (slice_set sets (number - 1) codes) (n - 1) [] ≡ cond (n == number) codes (get_or sets (n - 1) [])
set_at sets number n codes len first last from = elim (cases_eq n number) [
  | inl e ↦
      let same : n - 1 ≡ number - 1 = omega (arith, e) in
      ap (λ (x : ℕ). get_or (slice_set sets (number - 1) codes) x []) same
      ∙ get_or-set_same sets (number - 1) codes [] (omega (arith, len, first, last))
      ∙ sym (cond-true (n == number) codes (get_or sets (n - 1) []) (eq-eqb n number e))
  | inr ne ↦
      let other : n - 1 ≢ number - 1 = λ e. ne (omega (arith, e, first, from)) in
      get_or-set_other sets (number - 1) (n - 1) codes [] other
      ∙ sym (cond-false (n == number) codes (get_or sets (n - 1) []) (ne_eqb n number ne))
]

pub past_end : (sets : List (List ℕ)) (i : ℕ) → length sets ≤ i → get_or sets i [] ≡ []
past_end [] i h = refl
past_end (x ∷ xs) zero h = absurd (omega (arith, h))
past_end (x ∷ xs) (suc i) h = past_end xs i (omega (arith, h))
