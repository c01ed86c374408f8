-- The day of the week.
use Rattle.std.proofs.Common.{◌≡◌, ◌∙◌, refl, ap, ℕ, ℤ, pos, arith, FitsSigned, w8, nat_abs}
use Rattle.std.proofs.lemmas.Int.{to_z-of_z}
use Rattle.jiff.proofs.SpanFacts.{signed_arith}
use Rattle.jiff_core.specs.Calendar.{weekday_number, IsBetween}
use mir.Val.{of_z, to_z}
use Rattle.pam_tables.specs.times.Entry.{weekday_of_day}

-- the day of the week in jiff is that of the definition
pub same_weekday : (number : ℤ) → weekday_number number ≡ weekday_of_day number
unfolding weekday_number weekday_of_day
same_weekday number = refl

pub unsigned_weekday : (z : ℤ) (n k : ℕ) → IsBetween (pos 0) (pos 6) z → z ≡ pos n → n ≡ k → nat_abs (to_z w8 (of_z w8 z)) ≡ k
unsigned_weekday z n k b e g =
    let fits : FitsSigned w8 z = omega (arith, signed_arith) in
    rw (to_z-of_z w8 z fits) (ap nat_abs e ∙ g)
