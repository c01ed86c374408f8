-- Two sets of which each has no code more than the other.
use Rattle.std.proofs.Common.{◌≡◌, ℕ, ◌<◌, Bool, true, false, List, [], ◌&&◌, not, refl, sym, ap, ◌∙◌}
use Rattle.pam_codes.specs.Set.{IsCodeSet, codes_where, is_in}
use Rattle.pam_codes.specs.SetText.{names_text, set_text}
use Rattle.pam_codes.specs.inner.SetBits.{codes_where-same, is_in-codes_where}

same_answer : (x y : Bool) → (x && not y) ≡ false → (y && not x) ≡ false → x ≡ y
same_answer true true e f = refl
same_answer true false e f = e
same_answer false true e f = sym f
same_answer false false e f = refl

none_more : (class other : List ℕ) (code : ℕ) → code < 31 → codes_where (λ c. is_in c class && not (is_in c other)) ≡ []
    → (is_in code class && not (is_in code other)) ≡ false
none_more class other code small none = sym (is_in-codes_where (λ c. is_in c class && not (is_in c other)) code small) ∙ ap (is_in code) none

pub same_sets : (class other : List ℕ) → IsCodeSet class → IsCodeSet other → codes_where (λ c. is_in c class && not (is_in c other)) ≡ []
    → codes_where (λ c. is_in c other && not (is_in c class)) ≡ [] → class ≡ other
same_sets class other is_set is_other none none_other =
    is_set
    ∙ codes_where-same (λ c. is_in c class) (λ c. is_in c other)
    (λ code small. same_answer (is_in code class) (is_in code other) (none_more class other code small none) (none_more other class code small none_other))
    ∙ sym is_other

-- the empty set has no text
pub no_text : (class text : List ℕ) → class ≡ [] → text ≡ [] → text ≡ set_text class
unfolding set_text names_text
no_text class text none empty = rw (none, empty) refl
