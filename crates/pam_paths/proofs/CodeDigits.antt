-- Which digits are those of a code's number.
use Rattle.std.proofs.Common.{◌≡◌, ◌≢◌, ℕ, ◌+◌, ◌*◌, ◌/◌, ◌%◌, ◌<◌, ◌≤◌, nat_lt, if◌then◌else◌, decimal, sym, ap, ◌∙◌, inl, inr, arith}
use Rattle.std.proofs.Common.{List, [], ◌∷◌, ◌++◌, length, Some, None}
use Rattle.pam_paths.specs.inner.CursorText.{IsCodeOf}
use Rattle.std.proofs.lemmas.Bool.{cases_lt, le-ltb, lt-ltb}
use Rattle.std.proofs.lemmas.Fmt.{decimal_digit, decimal_step}

two_of : (code : ℕ) → 10 ≤ code → code < 31 → decimal code ≡ (48 + code / 10) ∷ (48 + code % 10) ∷ []
two_of code large small =
    decimal_step code large (omega arith) ∙ ap (λ front. front ++ (48 + code % 10) ∷ []) (decimal_digit (code / 10) (omega arith))

-- a code has one digit or two
data Digits (code : ℕ) : Type 0 where
  one : code < 10 → decimal code ≡ (48 + code) ∷ [] → Digits code
  two : 10 ≤ code → decimal code ≡ (48 + code / 10) ∷ (48 + code % 10) ∷ [] → Digits code

digits_of : (code : ℕ) → code < 31 → Digits code
digits_of code small = elim (cases_lt code 10) [ inl few ↦ one few (decimal_digit code few) | inr many ↦ two many (two_of code many small) ]

-- the code of a number whose digits are these, if there is one
code_of_number : (digits : List ℕ) (number : ℕ) → (number < 31 → decimal number ≡ digits)
    → ((code : ℕ) → code < 31 → decimal code ≡ digits → code ≡ number)
    → IsCodeOf digits (if nat_lt number 31 then Some number else None)
code_of_number digits number written only =
    elim (cases_lt number 31) [
      | inl small ↦ rw (lt-ltb number 31 small) (small, written small)
      | inr large ↦ rw (le-ltb number 31 large) (λ code small same. let is = only code small same in omega arith)
    ]

-- ONE DIGIT

pub one_digit : (ones value : ℕ) → value < 10 → ones ≡ 48 + value → IsCodeOf (ones ∷ []) (if nat_lt value 31 then Some value else None)
one_digit ones value low is_digit =
    code_of_number (ones ∷ []) value (λ small. decimal_digit value low ∙ ap (λ byte. byte ∷ []) (sym is_digit))
    (λ code small same. elim (digits_of code small) [
      | one few is ↦ let digit : 48 + code ≡ ones = cc in omega arith
      | two many is ↦ cc
    ])

pub one_within : (code ones : ℕ) → code < 31 → decimal code ≡ ones ∷ [] → (48 ≤ ones) × (ones ≤ 57)
one_within code ones small same =
    elim (digits_of code small) [
      | one few is ↦ let digit : 48 + code ≡ ones = cc in (omega arith, omega arith)
      | two many is ↦ cc
    ]

-- TWO DIGITS

pub two_digits : (tens ones front back : ℕ) → tens ≢ 48 → front < 10 → tens ≡ 48 + front → back < 10 → ones ≡ 48 + back
    → IsCodeOf (tens ∷ ones ∷ []) (if nat_lt (10 * front + back) 31 then Some (10 * front + back) else None)
two_digits tens ones front back leading low is_front little is_back =
    let number : ℕ = 10 * front + back in
    let first : 48 + number / 10 ≡ tens = omega arith in
    let last : 48 + number % 10 ≡ ones = omega arith in
    code_of_number (tens ∷ ones ∷ []) number
    (λ small. let digits : decimal number ≡ (48 + number / 10) ∷ (48 + number % 10) ∷ [] = two_of number (omega arith) small in cc)
    (λ code small same. elim (digits_of code small) [
      | one few is ↦ cc
      | two many is ↦
          let tens_is : 48 + code / 10 ≡ tens = cc in
          let ones_is : 48 + code % 10 ≡ ones = cc in
          omega arith
    ])

pub two_within : (code tens ones : ℕ) → code < 31 → decimal code ≡ tens ∷ ones ∷ [] → (48 < tens) × (tens ≤ 57) × (48 ≤ ones) × (ones ≤ 57)
two_within code tens ones small same =
    elim (digits_of code small) [
      | one few is ↦ cc
      | two many is ↦
          let first : 48 + code / 10 ≡ tens = cc in
          let last : 48 + code % 10 ≡ ones = cc in
          (omega arith, omega arith, omega arith, omega arith)
    ]

-- OTHER TEXTS

pub no_length : (digits : List ℕ) → length digits ≢ 1 → length digits ≢ 2 → (code : ℕ) → code < 31 → decimal code ≢ digits
no_length digits not_one not_two code small same =
    elim (digits_of code small) [
      | one few is ↦ not_one (ap length (sym same ∙ is))
      | two many is ↦ not_two (ap length (sym same ∙ is))
    ]
