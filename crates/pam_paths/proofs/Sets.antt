-- Sets of codes by their tests.
use Rattle.std.proofs.Common.{◌≡◌, ℕ, Bool, true, false, refl, sym}
use Rattle.pam_codes.specs.Code.{all_codes}
use Rattle.pam_codes.specs.Set.{codes_where, is_in, IsCodeSet}
use Rattle.pam_codes.specs.inner.SetBits.{is_in-codes_where, codes_where-same}

pub where-is_set : (test : ℕ → Bool) → IsCodeSet (codes_where test)
where-is_set test = codes_where-same test (λ code. is_in code (codes_where test)) (λ code h. sym (is_in-codes_where test code h))

-- two tests that imply each other are the same
pub same_tests : (a b : Bool) → (a ≡ true → b ≡ true) → (b ≡ true → a ≡ true) → a ≡ b
same_tests true b to back = sym (to refl)
same_tests false true to back = back refl
same_tests false false to back = refl

pub everything : all_codes ≡ codes_where (λ code. true)
unfolding all_codes
everything = refl
