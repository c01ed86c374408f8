-- The bits of sets built from others, and the first and the last code of a part of a set.
use Rattle.std.proofs.Common.{◌≡◌, ◌<◌, ◌≤◌, ◌+◌, ◌-◌, ◌*◌, ◌/◌, ◌%◌, ◌^◌, ◌||◌, ◌&&◌, ℕ, zero, suc, Bool, true, false, List, min, max, not, eqb}
use Rattle.std.proofs.Common.{ltb, cond, slice_get, Option, Some, None, IsTrue, IfSome, IfNone, add-one, refl, sym, ◌∙◌, ap, inl, inr, arith}
use Rattle.std.proofs.Common.{bit_and, bit_or}
use Rattle.std.specs.Int.{bit_at, bit_not, trailing_zeros, w32}
use Rattle.std.proofs.Math.Nat.{div-eq_of_lt-le, pow-suc, pow-le-pow_right}
use Rattle.std.proofs.lemmas.Bool.{and_from, and_parts, cases_lt, false≢true, le-ltb, lt-ltb, ltb-false, ltb-true, not-true}
use Rattle.std.proofs.lemmas.Nat.{and_le_l, pow_below}
use Rattle.std.proofs.lemmas.Nat.Bits.{bit_at-lt, bit_at-trailing_zeros, bit_at-zero, bit_at_above, bit_at_and, bit_at_or, bit_at_not, bit_at_ones}
use Rattle.std.proofs.lemmas.Nat.Bits.{bit_at_ones_above}
use Rattle.pam_codes.specs.Set.{codes_where, is_in}
use Rattle.pam_codes.specs.SetBits.{codes_of_bits}
use Rattle.pam_codes.specs.inner.SetBits.{codes_where-same, is_in-codes_where}
use Rattle.pam_codes.proofs.CodeSets.{lowest_below}
use Rattle.pam_codes.proofs.Firsts.{FirstIn, first_of, past_codes}

bit_of_min : (m n : ℕ) → m < 2 → n < 2 → eqb (min m n) 1 ≡ (eqb m 1 && eqb n 1)
bit_of_min zero zero h k = refl
bit_of_min zero (suc zero) h k = refl
bit_of_min (suc zero) zero h k = refl
bit_of_min (suc zero) (suc zero) h k = refl
bit_of_min (suc (suc m)) n h k = absurd (omega arith)
bit_of_min m (suc (suc n)) h k = absurd (omega arith)

bit_of_max : (m n : ℕ) → m < 2 → n < 2 → eqb (max m n) 1 ≡ (eqb m 1 || eqb n 1)
bit_of_max zero zero h k = refl
bit_of_max zero (suc zero) h k = refl
bit_of_max (suc zero) zero h k = refl
bit_of_max (suc zero) (suc zero) h k = refl
bit_of_max (suc (suc m)) n h k = absurd (omega arith)
bit_of_max m (suc (suc n)) h k = absurd (omega arith)

bit_of_not : (n : ℕ) → n < 2 → eqb (1 - n) 1 ≡ not (eqb n 1)
bit_of_not zero h = refl
bit_of_not (suc zero) h = refl
bit_of_not (suc (suc n)) h = absurd (omega arith)

-- whether a code's bit is set
abbrev has : ℕ → ℕ → Bool
has bits code = eqb (bit_at bits code) 1

has-and : (a b code : ℕ) → has (bit_and a b) code ≡ (has a code && has b code)
has-and a b code = ap (λ (n : ℕ). eqb n 1) (bit_at_and a b code) ∙ bit_of_min _ _ (bit_at-lt a code) (bit_at-lt b code)

has-or : (a b code : ℕ) → has (bit_or a b) code ≡ (has a code || has b code)
has-or a b code = ap (λ (n : ℕ). eqb n 1) (bit_at_or a b code) ∙ bit_of_max _ _ (bit_at-lt a code) (bit_at-lt b code)

has-not : (a code : ℕ) → a < 2 ^ 32 → code < 31 → has (bit_not w32 a) code ≡ not (has a code)
has-not a code small low = ap (λ (n : ℕ). eqb n 1) (bit_at_not w32 a code small (omega arith)) ∙ bit_of_not _ (bit_at-lt a code)

has-is_in : (bits code : ℕ) → code < 31 → has bits code ≡ is_in code (codes_of_bits bits)
unfolding codes_of_bits
has-is_in bits code low = sym (is_in-codes_where (λ c. has bits c) code low)

-- the codes of two sets
pub codes_of_bits-or : (a b : ℕ) → codes_of_bits (bit_or a b) ≡ codes_where (λ c. is_in c (codes_of_bits a) || is_in c (codes_of_bits b))
unfolding codes_of_bits
codes_of_bits-or a b = codes_where-same _ _ (λ code low.
    has-or a b code
    ∙ ap (λ (t : Bool). t || has b code) (has-is_in a code low)
    ∙ ap (λ (t : Bool). is_in code (codes_of_bits a) || t) (has-is_in b code low))

pub codes_of_bits-and : (a b : ℕ) → codes_of_bits (bit_and a b) ≡ codes_where (λ c. is_in c (codes_of_bits a) && is_in c (codes_of_bits b))
unfolding codes_of_bits
codes_of_bits-and a b = codes_where-same _ _ (λ code low.
    has-and a b code
    ∙ ap (λ (t : Bool). t && has b code) (has-is_in a code low)
    ∙ ap (λ (t : Bool). is_in code (codes_of_bits a) && t) (has-is_in b code low))

pub codes_of_bits-without : (a b : ℕ) → b < 2 ^ 32 →
    codes_of_bits (bit_and a (bit_not w32 b)) ≡ codes_where (λ c. is_in c (codes_of_bits a) && not (is_in c (codes_of_bits b)))
unfolding codes_of_bits
codes_of_bits-without a b small = codes_where-same _ _ (λ code low.
    has-and a (bit_not w32 b) code
    ∙ ap (λ (t : Bool). has a code && t) (has-not b code small low)
    ∙ ap (λ (t : Bool). t && not (has b code)) (has-is_in a code low)
    ∙ ap (λ (t : Bool). is_in code (codes_of_bits a) && not t) (has-is_in b code low))

-- a code in both sets
pub in_both : (a b code : ℕ) → code < 31 → is_in code (codes_of_bits a) ≡ true → is_in code (codes_of_bits b) ≡ true → bit_and a b ≡ 0 → ⊥
in_both a b code low at_a at_b none =
    let one : has (bit_and a b) code ≡ true =
    has-and a b code ∙ and_from _ _ (has-is_in a code low ∙ at_a) (has-is_in b code low ∙ at_b) in
    let zero : has (bit_and a b) code ≡ false = ap (λ (n : ℕ). has n code) none ∙ ap (λ (n : ℕ). eqb n 1) (bit_at-zero code) in
    false≢true (sym zero ∙ one)

pub some_in_both : (a b : ℕ) → (bit_and a b ≡ 0 → ⊥) → bit_and a b < 2 ^ 31 →
    (code : ℕ) × (code < 31) × (is_in code (codes_of_bits a) ≡ true) × (is_in code (codes_of_bits b) ≡ true)
some_in_both a b some small =
    let code = trailing_zeros w32 (bit_and a b) in
    let low : code < 31 = lowest_below (bit_and a b) some small in
    let bit = bit_at-trailing_zeros w32 (bit_and a b) (omega arith) (omega arith) in
    let both = and_parts (has a code) (has b code) (sym (has-and a b code) ∙ ap (λ (n : ℕ). eqb n 1) bit.1) in
    (code, low, sym (has-is_in a code low) ∙ both.0, sym (has-is_in b code low) ∙ both.1)

not_in_bits : (bits code : ℕ) → 31 ≤ code → is_in code (codes_of_bits bits) ≡ false
unfolding codes_of_bits
not_in_bits bits code past = past_codes (has bits) code past

-- the bits below a number
has-below : (number code : ℕ) → code < 31 → has (2 ^ (min number 31) - 1) code ≡ ltb code number
has-below number code low = elim (cases_lt code number) [
  | inl below ↦ ap (λ (n : ℕ). eqb n 1) (bit_at_ones (min number 31) code (omega arith)) ∙ sym (lt-ltb code number below)
  | inr above ↦ ap (λ (n : ℕ). eqb n 1) (bit_at_ones_above (min number 31) code (omega arith)) ∙ sym (le-ltb code number above)
]

-- the first code from a number on
abbrev pub FirstFrom : ℕ → List ℕ → Option ℕ → Type 0
FirstFrom first codes (Some m) = (first ≤ m) × (m < 31) × (is_in m codes ≡ true) × ((c : ℕ) → first ≤ c → c < m → is_in c codes ≡ false)
FirstFrom first codes None = (c : ℕ) → first ≤ c → is_in c codes ≡ false

-- the last code below a number
abbrev pub LastBelow : ℕ → List ℕ → Option ℕ → Type 0
LastBelow last codes (Some m) = (m < last) × (m < 31) × (is_in m codes ≡ true) × ((c : ℕ) → m < c → c < last → is_in c codes ≡ false)
LastBelow last codes None = (c : ℕ) → c < last → is_in c codes ≡ false

and_true : (t : Bool) → (t && true) ≡ t
and_true true = refl
and_true false = refl

module _ (bits first : ℕ) where
  abbrev from_bits : ℕ
  from_bits = bit_and bits (bit_not w32 (2 ^ (min first 31) - 1))

  has-from : (code : ℕ) → code < 31 → has from_bits code ≡ (is_in code (codes_of_bits bits) && not (ltb code first))
  has-from code low =
      let small = pow_below (min first 31) 32 (omega arith) in
      has-and bits _ code
      ∙ ap (λ (t : Bool). has bits code && t) (has-not (2 ^ (min first 31) - 1) code (omega arith) low ∙ ap not (has-below first code low))
      ∙ ap (λ (t : Bool). t && not (ltb code first)) (has-is_in bits code low)

  not_in : (code : ℕ) → first ≤ code → code < 31 → has from_bits code ≡ false → is_in code (codes_of_bits bits) ≡ false
  not_in code from low h =
      sym (and_true _) ∙ sym (ap (λ (t : Bool). is_in code (codes_of_bits bits) && not t) (le-ltb code first from)) ∙ sym (has-from code low) ∙ h

  from_first : (found : Option ℕ) → FirstIn (has from_bits) 0 31 found → FirstFrom first (codes_of_bits bits) found
  from_first (Some m) h =
      let low : m < 31 = omega (arith, h.1) in
      let parts = and_parts _ _ (sym (has-from m low) ∙ h.2) in
      (ltb-false m first (not-true _ parts.1), low, parts.0, λ c from to. not_in c from (omega arith) (h.3 c (omega arith) to))
  from_first None h = λ c from. elim (cases_lt c 31) [
    | inl low ↦ not_in c from low (h c (omega arith) (omega arith))
    | inr past ↦ not_in_bits bits c past
  ]

  pub first_from : FirstFrom first (codes_of_bits bits) (slice_get (codes_of_bits from_bits) 0)
  unfolding codes_of_bits
  first_from = from_first _ (first_of (has from_bits))

-- the greatest bit of a number
top_bit : (n j : ℕ) → 2 ^ j ≤ n → n < 2 * 2 ^ j → has n j ≡ true
top_bit n j low high =
    let one : n / 2 ^ j ≡ 1 = div-eq_of_lt-le {k = 1} (2 ^ j) {m = n} (omega arith) (omega arith) in
    ap (λ (x : ℕ). eqb (x % 2) 1) one

pow_under : (i j : ℕ) → 2 ^ i < 2 ^ j → i < j
pow_under i j h = elim (cases_lt i j) [ inl l ↦ l | inr l ↦ let k : 2 ^ j ≤ 2 ^ i = pow-le-pow_right {n = 2} (omega arith) l in absurd (omega arith) ]

module _ (bits last : ℕ) where
  abbrev below_bits : ℕ
  below_bits = bit_and bits (2 ^ (min last 31) - 1)

  has-below_bits : (code : ℕ) → code < 31 → has below_bits code ≡ (is_in code (codes_of_bits bits) && ltb code last)
  has-below_bits code low =
      has-and bits _ code
      ∙ ap (λ (t : Bool). has bits code && t) (has-below last code low)
      ∙ ap (λ (t : Bool). t && ltb code last) (has-is_in bits code low)

  not_in_below : (code : ℕ) → code < last → code < 31 → has below_bits code ≡ false → is_in code (codes_of_bits bits) ≡ false
  not_in_below code below low h =
      sym (and_true _) ∙ sym (ap (λ (t : Bool). is_in code (codes_of_bits bits) && t) (lt-ltb code last below)) ∙ sym (has-below_bits code low) ∙ h

  pub none_below : below_bits ≡ 0 → LastBelow last (codes_of_bits bits) None
  none_below none = λ c below. elim (cases_lt c 31) [
    | inl low ↦ not_in_below c below low (ap (λ (n : ℕ). has n c) none ∙ ap (λ (n : ℕ). eqb n 1) (bit_at-zero c))
    | inr past ↦ not_in_bits bits c past
  ]

  pub last_below : (top : ℕ) → bits < 2 ^ 31 → 2 ^ top ≤ below_bits → below_bits < 2 * 2 ^ top →
      LastBelow last (codes_of_bits bits) (cond (ltb top 31) (Some top) None)
  last_below top small low high =
      let few : below_bits < 2 ^ 31 = omega (arith, and_le_l bits (2 ^ (min last 31) - 1)) in
      let under : top < 31 = pow_under top 31 (omega arith) in
      let twice : 2 ^ (top + 1) ≡ 2 ^ top * 2 = ap (λ (k : ℕ). 2 ^ k) (add-one top) ∙ pow-suc 2 top in
      let parts = and_parts _ _ (sym (has-below_bits top under) ∙ top_bit below_bits top low high) in
      rw (lt-ltb top 31 under) (
        ltb-true top last parts.1,
        under,
        parts.0,
        λ c above below. elim (cases_lt c 31) [
          | inl l ↦ not_in_below c below l (ap (λ (n : ℕ). eqb n 1) (bit_at_above below_bits (top + 1) c (omega arith) (omega arith)))
          | inr l ↦ not_in_bits bits c l
        ],
      )

-- the same, of an option
module _ (number : ℕ) (codes : List ℕ) where
  pub first-found : (found : Option ℕ) → FirstFrom number codes found → IfSome found (λ m. (number ≤ m) × (m < 31) × IsTrue (is_in m codes))
  first-found (Some m) h = (h.0, h.1, h.2)
  first-found None h = tt

  pub first-before : (found : Option ℕ) → FirstFrom number codes found → IfSome found (λ m. (c : ℕ) → number ≤ c → c < m → is_in c codes ≡ false)
  first-before (Some m) h = h.3
  first-before None h = tt

  pub first-none : (found : Option ℕ) → FirstFrom number codes found → IfNone found ((c : ℕ) → number ≤ c → is_in c codes ≡ false)
  first-none (Some m) h = tt
  first-none None h = h

  pub last-found : (found : Option ℕ) → LastBelow number codes found → IfSome found (λ m. (m < number) × (m < 31) × IsTrue (is_in m codes))
  last-found (Some m) h = (h.0, h.1, h.2)
  last-found None h = tt

  pub last-after : (found : Option ℕ) → LastBelow number codes found → IfSome found (λ m. (c : ℕ) → m < c → c < number → is_in c codes ≡ false)
  last-after (Some m) h = h.3
  last-after None h = tt
