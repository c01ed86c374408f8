-- For private contracts and proofs alone: the bits of a set of return codes, and the codes of bits. Contracts see a set as the list
-- of its codes.
use Rattle.std.proofs.Common.{◌≡◌, ◌≢◌, ◌<◌, ◌≤◌, ◌+◌, ◌^◌, ◌==◌, ℕ, zero, suc, Bool, true, false, List, ◌∷◌, cond, eqb, map, filter, subst, ap, ◌∙◌}
use Rattle.std.proofs.Common.{sym, refl, arith, eq-eqb}
use Rattle.std.specs.List.{range_with_len}
use Rattle.std.specs.Int.{bit_at}
use Rattle.std.specs.Simd.Lanes.{mask_l}
use Rattle.std.proofs.lemmas.Bool.{eqb-true, eqb-false}
use Rattle.std.proofs.lemmas.List.FromFn.{length-map-range_with_len, get_or-map-range_with_len}
use Rattle.std.proofs.lemmas.Nat.Bits.{bit_at-lt, same_from_bits_below}
use Rattle.std.proofs.lemmas.Simd.{mask_l-lt, bit_mask_l}
use Rattle.pam_codes.specs.Code.{all_codes}
use Rattle.pam_codes.specs.Set.{codes_where, is_in}
use Rattle.pam_codes.specs.SetBits.{codes_of_bits}

-- the bits of these codes
unfoldable pub bits_of_codes : List ℕ → ℕ
bits_of_codes codes = mask_l (map (λ code. is_in code codes) all_codes)

pub eqb-self : (n : ℕ) → eqb n n ≡ true
eqb-self n = eq-eqb n n refl

pub eqb-other : (m n : ℕ) → m ≢ n → eqb m n ≡ false
eqb-other m n h = elim (eqb m n) as (λ (t : Bool). eqb m n ≡ t → t ≡ false) [ true ↦ λ e. absurd (h (eqb-true m n e)) | false ↦ λ e. refl ] refl

-- filtering a run of codes keeps exactly the codes that pass
in_run_before : (test : ℕ → Bool) (a n code : ℕ) → code < a → is_in code (filter test (range_with_len a n)) ≡ false
in_run_before test a zero code h = refl
in_run_before test a (suc n) code h =
    let rest : is_in code (filter test (range_with_len (a + 1) n)) ≡ false = in_run_before test (a + 1) n code (omega arith) in
    elim (test a) as (λ (t : Bool). is_in code (cond t (a ∷ filter test (range_with_len (a + 1) n)) (filter test (range_with_len (a + 1) n))) ≡ false) [
      | true ↦ rw (eqb-other a code (omega arith)) rest
      | false ↦ rest
    ]

in_run : (test : ℕ → Bool) (a n code : ℕ) → a ≤ code → code < a + n → is_in code (filter test (range_with_len a n)) ≡ test code
in_run test a zero code low high = absurd (omega arith)
in_run test a (suc n) code low high =
    elim (eqb a code) as (λ (t : Bool).
    eqb a code ≡ t
    → is_in code (cond (test a) (a ∷ filter test (range_with_len (a + 1) n)) (filter test (range_with_len (a + 1) n))) ≡ test code) [
      | true ↦ λ e. let same : a ≡ code = eqb-true a code e in
          elim (test a) as (λ (t : Bool).
          test a ≡ t → is_in code (cond t (a ∷ filter test (range_with_len (a + 1) n)) (filter test (range_with_len (a + 1) n))) ≡ test code) [
            | true ↦ λ p. rw e (sym p ∙ ap test same)
            | false ↦ λ p. in_run_before test (a + 1) n code (omega arith) ∙ sym p ∙ ap test same
          ] refl
      | false ↦ λ e. let other : a ≢ code = eqb-false a code e in
          let rest : is_in code (filter test (range_with_len (a + 1) n)) ≡ test code = in_run test (a + 1) n code (omega arith) (omega arith) in
          elim (test a) as (λ (t : Bool).
          is_in code (cond t (a ∷ filter test (range_with_len (a + 1) n)) (filter test (range_with_len (a + 1) n))) ≡ test code) [
            | true ↦ rw e rest
            | false ↦ rest
          ]
    ] refl

-- `codes_where test` contains a code if and only if the code passes
pub is_in-codes_where : (test : ℕ → Bool) (code : ℕ) → code < 31 → is_in code (codes_where test) ≡ test code
unfolding all_codes
is_in-codes_where test code h = in_run test 0 31 code (omega arith) (omega arith)

pub filter_run : (p q : ℕ → Bool) (a n : ℕ) → ((code : ℕ) → a ≤ code → code < a + n → p code ≡ q code)
    → filter p (range_with_len a n) ≡ filter q (range_with_len a n)
filter_run p q a zero h = refl
filter_run p q a (suc n) h =
    ap (λ (t : Bool). cond t (a ∷ filter p (range_with_len (a + 1) n)) (filter p (range_with_len (a + 1) n))) (h a (omega arith) (omega arith))
    ∙ ap (λ (xs : List ℕ). cond (q a) (a ∷ xs) xs) (filter_run p q (a + 1) n (λ code low high. h code (omega arith) (omega arith)))

-- tests that agree on all codes select the same codes
pub codes_where-same : (p q : ℕ → Bool) → ((code : ℕ) → code < 31 → p code ≡ q code) → codes_where p ≡ codes_where q
unfolding all_codes
codes_where-same p q h = filter_run p q 0 31 (λ code low high. h code (omega arith))

one_or_zero : (n : ℕ) → n < 2 → cond (eqb n 1) 1 0 ≡ n
one_or_zero zero h = refl
one_or_zero (suc zero) h = refl
one_or_zero (suc (suc n)) h = absurd (omega arith)

-- converting bits to codes and back does not change them
pub bits_of_codes-codes_of_bits : (bits : ℕ) → bits < 2 ^ 31 → bits_of_codes (codes_of_bits bits) ≡ bits
unfolding bits_of_codes codes_of_bits all_codes
bits_of_codes-codes_of_bits bits small =
    let test : ℕ → Bool = λ code. is_in code (codes_where (λ c. bit_at bits c == 1)) in
    let few : mask_l (map test (range_with_len 0 31)) < 2 ^ 31 =
    subst (λ n. mask_l (map test (range_with_len 0 31)) < 2 ^ n) (length-map-range_with_len test 0 31) (mask_l-lt (map test (range_with_len 0 31))) in
    same_from_bits_below 31 (mask_l (map test (range_with_len 0 31))) bits few small
    (λ i h. bit_mask_l (map test (range_with_len 0 31)) i
    ∙ ap (λ (t : Bool). cond t 1 0) (get_or-map-range_with_len test 0 31 i i false h (omega arith) ∙ is_in-codes_where (λ c. bit_at bits c == 1) i h)
    ∙ one_or_zero _ (bit_at-lt bits i))
