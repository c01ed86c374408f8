-- The bits of a set, and its codes.
use Rattle.std.proofs.Common.{◌≡◌, ◌≢◌, ◌<◌, ◌≤◌, ◌+◌, ◌*◌, ◌/◌, ◌%◌, ◌^◌, ◌||◌, ◌==◌, ℕ, zero, suc, Bool, true, false, List, [], ◌∷◌, length}
use Rattle.std.proofs.Common.{slice_get, Some, None, cond, if◌then◌else◌, nat_lt, eqb, filter, All, subst, ap, ◌∙◌, sym, refl, arith, count_ones}
use Rattle.std.proofs.Common.{bit_and, bit_or, eq-eqb}
use Rattle.std.specs.List.{range_with_len}
use Rattle.std.specs.List.Sorted.{IsStrictlyIncreasing}
use Rattle.std.specs.Int.{bit_at, w32, trailing_zeros}
use Rattle.std.proofs.lemmas.Bool.{eqb-true, eqb-false, lt-ltb}
use Rattle.std.proofs.lemmas.List.Elements.{All-filter, All-from_get_or}
use Rattle.std.proofs.lemmas.List.FromFn.{length-range_with_len, get_or-range_with_len}
use Rattle.std.proofs.lemmas.List.Kept.{IsStrictlyIncreasing-filter}
use Rattle.std.proofs.lemmas.List.Sums.{length-filter}
use Rattle.std.proofs.lemmas.Nat.{one_shl, or_lt}
use Rattle.std.proofs.lemmas.Nat.Bits.{shr_and_one, bit_at_above, bit_at-pow_same, bit_at-pow_other, bit_at_set_same, bit_at_set_other, bit_at-trailing_zeros}
use Rattle.std.proofs.Math.Pow.{pow-lt}
use Rattle.std.proofs.lemmas.Simd.{ones-mask_l}
use Rattle.pam_codes.specs.Code.{all_codes}
use Rattle.pam_codes.specs.Set.{codes_where, is_in, IsCodeSet}
use Rattle.pam_codes.specs.SetBits.{codes_of_bits}
use Rattle.pam_codes.specs.inner.SetBits.{bits_of_codes, bits_of_codes-codes_of_bits, is_in-codes_where, codes_where-same, eqb-other}

-- every bit below 31
pub codes_of_bits-ones : codes_of_bits 2147483647 ≡ all_codes
unfolding codes_of_bits all_codes
codes_of_bits-ones = refl

pub codes_of_bits-zero : codes_of_bits 0 ≡ []
unfolding codes_of_bits all_codes
codes_of_bits-zero = refl

-- no codes, no bits
pub no_bits : (bits : ℕ) → bits < 2 ^ 31 → codes_of_bits bits ≡ [] → bits ≡ 0
unfolding bits_of_codes all_codes
no_bits bits small none = sym (bits_of_codes-codes_of_bits bits small) ∙ ap bits_of_codes none

-- the same codes, the same bits
pub same_bits : (a b : ℕ) → a < 2 ^ 31 → b < 2 ^ 31 → codes_of_bits a ≡ codes_of_bits b → a ≡ b
same_bits a b small low same = sym (bits_of_codes-codes_of_bits a small) ∙ ap bits_of_codes same ∙ bits_of_codes-codes_of_bits b low

pub power_below : (n : ℕ) → n < 31 → 2 ^ n < 2 ^ 31
power_below n h = pow-lt {i = n} {j = 31} h

pub shifted_below : (n : ℕ) → n < 31 → (1 * 2 ^ n) % 2 ^ 32 < 2 ^ 31
shifted_below n h = rw (one_shl n 32 (omega arith)) (power_below n h)

pub with_bit_below : (bits n : ℕ) → bits < 2 ^ 31 → n < 31 → bit_or bits ((1 * 2 ^ n) % 2 ^ 32) < 2 ^ 31
with_bit_below bits n small h = or_lt 31 bits _ small (shifted_below n h)

-- the test of one bit
pub is_in-codes_of_bits : (bits code : ℕ) → code < 31 → eqb (bit_and (bits / 2 ^ code) 1) 1 ≡ is_in code (codes_of_bits bits)
unfolding codes_of_bits
is_in-codes_of_bits bits code h = ap (λ (n : ℕ). eqb n 1) (shr_and_one bits code) ∙ sym (is_in-codes_where (λ c. bit_at bits c == 1) code h)

-- one more bit
set_bit : (bits n code : ℕ) → n < 31 → eqb (bit_at (bit_or bits ((1 * 2 ^ n) % 2 ^ 32)) code) 1 ≡ (eqb code n || eqb (bit_at bits code) 1)
set_bit bits n code h =
    elim (eqb code n) as (λ (t : Bool). eqb code n ≡ t → eqb (bit_at (bit_or bits ((1 * 2 ^ n) % 2 ^ 32)) code) 1 ≡ (t || eqb (bit_at bits code) 1)) [
      | true ↦ λ e. let same : code ≡ n = eqb-true code n e in rw same (rw (bit_at_set_same w32 bits n (omega arith)) refl)
      | false ↦ λ e. let other : code ≢ n = eqb-false code n e in ap (λ (m : ℕ). eqb m 1) (bit_at_set_other w32 bits n (omega arith) code other)
    ] refl

pub codes_of_bits-set : (bits n : ℕ) → n < 31 → codes_of_bits (bit_or bits ((1 * 2 ^ n) % 2 ^ 32)) ≡ codes_where (λ c. c == n || is_in c (codes_of_bits bits))
unfolding codes_of_bits
codes_of_bits-set bits n h =
    codes_where-same _ _
    (λ code low. set_bit bits n code h ∙ ap (λ (t : Bool). eqb code n || t) (sym (is_in-codes_where (λ c. bit_at bits c == 1) code low)))

-- one bit
none_in_run : (n a k : ℕ) → n < a → filter (λ c. c == n) (range_with_len a k) ≡ []
none_in_run n a zero h = refl
none_in_run n a (suc k) h =
    ap (λ (t : Bool). cond t (a ∷ filter (λ c. c == n) (range_with_len (a + 1) k)) (filter (λ c. c == n) (range_with_len (a + 1) k)))
    (eqb-other a n (omega arith))
    ∙ none_in_run n (a + 1) k (omega arith)

one_in_run : (n a k : ℕ) → a ≤ n → n < a + k → filter (λ c. c == n) (range_with_len a k) ≡ n ∷ []
one_in_run n a zero low high = absurd (omega arith)
one_in_run n a (suc k) low high =
    elim (eqb a n) as (λ (t : Bool).
    eqb a n ≡ t → cond t (a ∷ filter (λ c. c == n) (range_with_len (a + 1) k)) (filter (λ c. c == n) (range_with_len (a + 1) k)) ≡ n ∷ []) [
      | true ↦ λ e. let same : a ≡ n = eqb-true a n e in ap (λ (xs : List ℕ). a ∷ xs) (none_in_run n (a + 1) k (omega arith)) ∙ ap (λ (m : ℕ). m ∷ []) same
      | false ↦ λ e. let other : a ≢ n = eqb-false a n e in one_in_run n (a + 1) k (omega arith) (omega arith)
    ] refl

power_bit : (n code : ℕ) → eqb (bit_at (2 ^ n) code) 1 ≡ eqb code n
power_bit n code = elim (eqb code n) as (λ (t : Bool). eqb code n ≡ t → eqb (bit_at (2 ^ n) code) 1 ≡ t) [
  | true ↦ λ e. let same : code ≡ n = eqb-true code n e in rw same (rw (bit_at-pow_same n) refl)
  | false ↦ λ e. let other : code ≢ n = eqb-false code n e in rw (bit_at-pow_other n code other) refl
] refl

pub codes_of_bits-one : (n : ℕ) → n < 31 → codes_of_bits ((1 * 2 ^ n) % 2 ^ 32) ≡ n ∷ []
unfolding codes_of_bits all_codes
codes_of_bits-one n h = rw (one_shl n 32 (omega arith)) (codes_where-same _ _ (λ code low. power_bit n code) ∙ one_in_run n 0 31 (omega arith) (omega arith))

-- the lowest bit
first_in_run : (test : ℕ → Bool) (n a k : ℕ) → a ≤ n → n < a + k → test n ≡ true → ((i : ℕ) → i < n → test i ≡ false)
    → slice_get (filter test (range_with_len a k)) 0 ≡ Some n
first_in_run test n a zero low high here before = absurd (omega arith)
first_in_run test n a (suc k) low high here before =
    elim (eqb a n) as (λ (t : Bool).
    eqb a n ≡ t → slice_get (cond (test a) (a ∷ filter test (range_with_len (a + 1) k)) (filter test (range_with_len (a + 1) k))) 0 ≡ Some n) [
      | true ↦ λ e. let same : a ≡ n = eqb-true a n e in rw (ap test same ∙ here) (ap Some same)
      | false ↦ λ e. let other : a ≢ n = eqb-false a n e in rw (before a (omega arith)) (first_in_run test n (a + 1) k (omega arith) (omega arith) here before)
    ] refl

below_top : (n bit : ℕ) → n < 32 → bit ≡ 1 → (31 ≤ n → bit ≡ 0) → n < 31
below_top n bit h set past = grind arith

pub lowest_below : (bits : ℕ) → (bits ≡ 0 → ⊥) → bits < 2 ^ 31 → trailing_zeros w32 bits < 31
lowest_below bits some small =
    let low = bit_at-trailing_zeros w32 bits (omega arith) (omega arith) in
    below_top (trailing_zeros w32 bits) (bit_at bits (trailing_zeros w32 bits)) low.0 low.1 (bit_at_above bits 31 (trailing_zeros w32 bits) small)

pub first_of_bits : (bits : ℕ) → (bits ≡ 0 → ⊥) → bits < 2 ^ 31 → slice_get (codes_of_bits bits) 0 ≡ Some (trailing_zeros w32 bits)
unfolding codes_of_bits all_codes
first_of_bits bits some small =
    let low = bit_at-trailing_zeros w32 bits (omega arith) (omega arith) in
    first_in_run (λ c. bit_at bits c == 1) (trailing_zeros w32 bits) 0 31 (omega arith) (lowest_below bits some small) (eq-eqb _ 1 low.1)
    (λ i h. ap (λ (n : ℕ). eqb n 1) (low.2 i h))

pub least_code : (bits : ℕ) → (bits ≡ 0 → ⊥) → bits < 2 ^ 31
    → (if nat_lt (trailing_zeros w32 bits) 31 then Some (trailing_zeros w32 bits) else None) ≡ slice_get (codes_of_bits bits) 0
least_code bits some small =
    ap (λ (t : Bool). if t then Some (trailing_zeros w32 bits) else None) (lt-ltb _ _ (lowest_below bits some small))
    ∙ sym (first_of_bits bits some small)

-- the number of bits
pub count_of_bits : (bits : ℕ) → bits < 2 ^ 31 → count_ones bits ≡ length (codes_of_bits bits)
unfolding codes_of_bits bits_of_codes
count_of_bits bits small =
    let codes : List ℕ = codes_of_bits bits in
    ap count_ones (sym (bits_of_codes-codes_of_bits bits small))
    ∙ ones-mask_l (λ code. is_in code codes) all_codes
    ∙ sym (length-filter (λ code. is_in code codes) all_codes)
    ∙ ap length (codes_where-same (λ code. is_in code codes) (λ c. bit_at bits c == 1) (λ code low. is_in-codes_where (λ c. bit_at bits c == 1) code low))

all_codes-rising : IsStrictlyIncreasing all_codes
unfolding all_codes
all_codes-rising k h =
    let at_k : k < 31 = omega (arith, length-range_with_len 0 31) in
    let at_next : k + 1 < 31 = omega (arith, length-range_with_len 0 31) in
    omega (arith, get_or-range_with_len 0 31 k 0 at_k, get_or-range_with_len 0 31 (k + 1) 0 at_next)

pub all_codes-within : All (λ code. code < 31) all_codes
unfolding all_codes
all_codes-within =
    All-from_get_or (λ code. code < 31) (range_with_len 0 31) 0
    (λ k h. let inside : k < 31 = omega (arith, length-range_with_len 0 31) in omega (arith, get_or-range_with_len 0 31 k 0 inside))

-- the codes that pass a test are a set
pub codes_where-is_set : (test : ℕ → Bool) → IsCodeSet (codes_where test)
codes_where-is_set test = codes_where-same test (λ code. is_in code (codes_where test)) (λ code h. sym (is_in-codes_where test code h))

-- the codes of a set rise
pub set-rising : (codes : List ℕ) → IsCodeSet codes → IsStrictlyIncreasing codes
set-rising codes e = subst IsStrictlyIncreasing (sym e) (IsStrictlyIncreasing-filter (λ code. is_in code codes) all_codes all_codes-rising)

pub set-within : (codes : List ℕ) → IsCodeSet codes → All (λ code. code < 31) codes
set-within codes e = subst (All (λ code. code < 31)) (sym e) (All-filter (λ code. is_in code codes) (λ code. code < 31) all_codes all_codes-within)

-- sets of the same codes are equal
pub set-same : (xs ys : List ℕ) → IsCodeSet xs → IsCodeSet ys → ((code : ℕ) → code < 31 → is_in code xs ≡ is_in code ys) → xs ≡ ys
set-same xs ys x y h = x ∙ codes_where-same (λ code. is_in code xs) (λ code. is_in code ys) h ∙ sym y

pub codes_of_bits-is_set : (bits : ℕ) → IsCodeSet (codes_of_bits bits)
unfolding codes_of_bits
codes_of_bits-is_set bits = codes_where-is_set (λ c. bit_at bits c == 1)
