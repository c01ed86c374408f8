-- A civil time, from the contract of the function that reads it.
use Rattle.std.proofs.Common.{◌≡◌, ◌↔◌, false, true, List, ℕ, Result, Ok, Err, subst}
use Rattle.std.specs.Prelude.{IsOk, IfOk, IfErr}
use Rattle.jiff.specs.Types.{DateTime}
use Rattle.pam_tables.specs.times.Moments.{Exist, HasParts, parts_of}
use Rattle.pam_tables.specs.declared.times.moments.MomentError.{MomentError}
use Rattle.pam_tables.specs.declared.times.moments.MomentError.TheVariants as moments
use Rattle.pam_report.specs.Moments.{IsWritten}

-- no test has both results
pub not_ok : false ≡ true → ⊥
not_ok both = cc

pub written-is : (read : Result DateTime MomentError) (text bytes : List ℕ) → bytes ≡ text → IsOk read ↔ Exist (parts_of bytes)
    → IfOk read (HasParts (parts_of bytes)) → IfErr read (λ e. e ≡ moments.Syntax) → IsWritten text read
written-is (Ok moment) text bytes same accepts value refusal = let P : List ℕ → Type 0 = λ t. HasParts (parts_of t) moment in subst P same value
written-is (Err e) text bytes same accepts value refusal = let P : List ℕ → Type 0 = λ t. Exist (parts_of t) → ⊥ in
    (refusal, subst P same (λ exist. not_ok (accepts.1 exist)))
