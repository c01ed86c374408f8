-- The position of a name in the table of names.
use Rattle.std.proofs.Common.{◌≡◌, ℕ, Bool, List, [], length, get_or, Some, ap, ◌∙◌, sym, refl}
use Rattle.std.proofs.Common.{slice_get}
use Rattle.std.proofs.lemmas.Option.{get_or_from_slice_get}
use Rattle.pam_codes.specs.Code.{code_names, same_name}

-- the code n has this name
pub name_at : (n : ℕ) (known bytes text : List ℕ) (r : Bool) → slice_get code_names n ≡ Some known → bytes ≡ known
    → same_name bytes text ≡ r → same_name (get_or code_names n []) text ≡ r
name_at n known bytes text r e b h = ap (λ (k : List ℕ). same_name k text) (get_or_from_slice_get code_names n known [] e ∙ sym b) ∙ h

-- the number of names
pub length-code_names : length code_names ≡ 31
unfolding code_names
length-code_names = refl
