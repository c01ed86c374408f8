-- An argument among arguments.
use Rattle.std.proofs.Common.{◌≡◌, ℕ, not, Bool, List, [], ◌∷◌, Option, codes, refl}
use Rattle.std.specs.List.{list_any}
use Rattle.std.specs.Str.{bytes_eq}
use Rattle.pam_tables.specs.Options.{given_or, last_value, options_of}

-- options from their parts
pub options_are : (arguments : List (List ℕ)) (f l : List ℕ) (o p : Option (List ℕ)) (h : Bool) → f ≡ given_or (codes ":") o →
    o ≡ last_value (codes "fieldsep=") arguments → l ≡ given_or (32 ∷ 9 ∷ 44 ∷ []) p → p ≡ last_value (codes "listsep=") arguments
    → h ≡ list_any (λ a. bytes_eq a (codes "nodefgroup")) arguments → record {
      field_separators =
          f;
      list_separators = l;
      group_names = not h;
    } ≡ options_of arguments
unfolding options_of
options_are arguments f l o p h e g i j k = rw (e, g, i, j, k) refl
