-- Texts that `parse` reads as a number, and those that `clap` accepts as one.
use Rattle.std.proofs.Common.{◌≡◌, ℕ, ◌<◌, ◌≤◌, ◌^◌, Bool, true, false, Option, Some, None, refl, ap, arith}
use Rattle.std.specs.Str.Parse.{IsNumeral, digits_value, without_leading_plus}
use Rattle.clap.proofs.ValueTestLemmas.{accepts-Accepts, Accepts-accepts}
use Rattle.clap.specs.ValueTests.{accepts}
use Rattle.clap.specs.Words.{Text}
use Rattle.pam_words.specs.Values.{number_in}
use Rattle.pam_words.specs.Words.{least_number, number_parser, most_number}

-- `u32` reads the text as a number
abbrev pub IsReadable : Text → Type 0
IsReadable text = IsNumeral 10 (without_leading_plus text) × (digits_value 10 (without_leading_plus text) < 2 ^ 32)

pub number_is : (text : Text) (n : ℕ) → IsReadable text → n ≡ digits_value 10 (without_leading_plus text) → least_number ≤ n → n ≤ most_number
    → Some n ≡ number_in text
number_is text n readable e low high =
    let taken : accepts false number_parser text ≡ true =
    Accepts-accepts false number_parser text (readable.0, omega (arith, e), omega (arith, e), omega (arith, e)) in
    rw taken (ap {A = ℕ} {B = Option ℕ} (λ k. Some k) e)

not_taken : (text : Text) (taken : Bool) → accepts false number_parser text ≡ taken → ¬ (IsReadable text) → accepts false number_parser text ≡ false
not_taken text true e unreadable = let h = accepts-Accepts false number_parser text e in absurd (unreadable (h.0, omega (arith, h.3)))
not_taken text false e unreadable = e

pub no_number : (text : Text) → ¬ (IsReadable text) → None ≡ number_in text
no_number text unreadable = rw (not_taken text _ refl unreadable) refl
