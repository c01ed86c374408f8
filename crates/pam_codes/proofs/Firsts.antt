-- The first code of a set, and the others.
use Rattle.std.proofs.Common.{◌≡◌, ◌<◌, ◌≤◌, ◌+◌, ◌&&◌, ℕ, zero, suc, Bool, true, false, List, [], ◌∷◌, not, cond, drop, filter, length, slice_get}
use Rattle.std.proofs.Common.{slice_index, Option, Some, None, eq-eqb, refl, sym, ◌∙◌, ap, inl, inr, arith}
use Rattle.std.specs.List.{range_with_len}
use Rattle.std.proofs.lemmas.Bool.{cases_eq, cond_both}
use Rattle.pam_codes.specs.Code.{all_codes}
use Rattle.pam_codes.specs.Set.{codes_where, is_in, IsCodeSet}
use Rattle.pam_codes.specs.inner.SetBits.{eqb-other, filter_run}

-- an option is the first code of a run that passes
abbrev pub FirstIn : (ℕ → Bool) → ℕ → ℕ → Option ℕ → Type 0
FirstIn test a n (Some m) = (a ≤ m) × (m < a + n) × (test m ≡ true) × ((c : ℕ) → a ≤ c → c < m → test c ≡ false)
FirstIn test a n None = (c : ℕ) → a ≤ c → c < a + n → test c ≡ false

later : (test : ℕ → Bool) (a n : ℕ) (found : Option ℕ) → test a ≡ false → FirstIn test (a + 1) n found → FirstIn test a (suc n) found
later test a n (Some m) e h = (
  omega (arith, h.0),
  omega (arith, h.1),
  h.2,
  λ c low high. elim (cases_eq c a) [
    | inl same ↦ ap test same ∙ e
    | inr other ↦ h.3 c (omega arith) high
  ],
)
later test a n None e h = λ c low high. elim (cases_eq c a) [
  | inl same ↦ ap test same ∙ e
  | inr other ↦ h c (omega arith) (omega arith)
]

first_in : (test : ℕ → Bool) (a n : ℕ) → FirstIn test a n (slice_get (filter test (range_with_len a n)) 0)
first_in test a zero = λ c low high. absurd (omega arith)
first_in test a (suc n) =
    let more = filter test (range_with_len (a + 1) n) in
    elim (test a) as (λ (t : Bool). test a ≡ t → FirstIn test a (suc n) (slice_get (cond t (a ∷ more) more) 0)) [
      | true ↦ λ e. (omega arith, omega arith, e, λ c low high. absurd (omega arith))
      | false ↦ λ e. later test a n (slice_get more 0) e (first_in test (a + 1) n)
    ] refl

-- a filtered run contains no number past its end
not_in_run : (test : ℕ → Bool) (a n code : ℕ) → a + n ≤ code → is_in code (filter test (range_with_len a n)) ≡ false
not_in_run test a zero code past = refl
not_in_run test a (suc n) code past =
    let rest : is_in code (filter test (range_with_len (a + 1) n)) ≡ false = not_in_run test (a + 1) n code (omega arith) in
    cond_both (test a) (a ∷ filter test (range_with_len (a + 1) n)) (filter test (range_with_len (a + 1) n)) (λ codes. is_in code codes ≡ false)
    (λ yes. rw (eqb-other a code (omega arith)) rest) (λ no. rest)

pub past_codes : (test : ℕ → Bool) (code : ℕ) → 31 ≤ code → is_in code (codes_where test) ≡ false
unfolding all_codes
past_codes test code past = not_in_run test 0 31 code (omega arith)

-- the first of the codes that pass
pub first_of : (test : ℕ → Bool) → FirstIn test 0 31 (slice_get (codes_where test) 0)
unfolding all_codes
first_of test = first_in test 0 31

-- the first of a list, and its rest
pub none_first : (codes : List ℕ) → slice_get codes 0 ≡ None → codes ≡ []
none_first [] h = refl
none_first (c ∷ cs) h = absurd (cc)

pub first_at : (codes : List ℕ) (code : ℕ) → slice_get codes 0 ≡ Some code → (0 < length codes) × (slice_index codes 0 ≡ code)
first_at [] code h = absurd (cc)
first_at (c ∷ cs) code h = (omega arith, cc)

pub first_and_rest : (codes : List ℕ) (code : ℕ) → slice_get codes 0 ≡ Some code → codes ≡ code ∷ drop 1 codes
first_and_rest [] code h = absurd (cc)
first_and_rest (c ∷ cs) code h = let same : c ≡ code = cc in ap (λ (x : ℕ). x ∷ cs) same

-- the codes of a set but its first
abbrev but_first : (ℕ → Bool) → ℕ → ℕ → Bool
but_first test code c = test c && not (is_in c (code ∷ []))

not_same : (code c : ℕ) (t : Bool) → code < c → (t && not (is_in c (code ∷ []))) ≡ t
not_same code c t less = rw (eqb-other code c (omega arith)) (kept t)
  where
    kept : (t : Bool) → (t && true) ≡ t
    kept true = refl
    kept false = refl

rest_in_run : (test : ℕ → Bool) (a n code : ℕ) (rest : List ℕ) → filter test (range_with_len a n) ≡ code ∷ rest →
    filter (but_first test code) (range_with_len a n) ≡ rest
rest_in_run test a zero code rest h = absurd (cc)
rest_in_run test a (suc n) code rest h =
    let more = filter (but_first test code) (range_with_len (a + 1) n) in
    elim (test a) as (λ (t : Bool). cond t (a ∷ filter test (range_with_len (a + 1) n)) (filter test (range_with_len (a + 1) n)) ≡ code ∷ rest →
    cond (t && not (is_in a (code ∷ []))) (a ∷ more) more ≡ rest) [
      | true ↦ λ e.
          let first : a ≡ code = cc in
          let others : filter test (range_with_len (a + 1) n) ≡ rest = cc in
          rw (eq-eqb code a (sym first))
          (filter_run (but_first test code) test (a + 1) n (λ c low high. not_same code c (test c) (omega (arith, first))) ∙ others)
      | false ↦ λ e. rest_in_run test (a + 1) n code rest e
    ] h

pub rest_of_set : (set : List ℕ) (code : ℕ) (rest : List ℕ) → IsCodeSet set → set ≡ code ∷ rest →
    codes_where (λ c. is_in c set && not (is_in c (code ∷ []))) ≡ rest
unfolding all_codes
rest_of_set set code rest is_set is = rest_in_run (λ c. is_in c set) 0 31 code rest (sym is_set ∙ is)
