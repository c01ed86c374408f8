-- The number of a finding, and its place.
use Rattle.std.specs.Prelude.{ℕ, ◌&&◌, ◌||◌, ◌==◌, Bool, false, List, [], ◌∷◌, codes, drop, is_some, length, nat_eq}
use Rattle.std.specs.Char.{is_ascii_digit}
use Rattle.std.specs.List.{list_all, list_any, starts_with}
use Rattle.pam_conf.specs.Rule.{kind_named}

abbrev pub is_digits : List ℕ → Bool
is_digits text = (length text == 1 || length text == 2) && list_all is_ascii_digit text

-- a word is these letters and then one or two digits
abbrev pub is_numbered : List ℕ → List ℕ → Bool
is_numbered word letters = starts_with nat_eq word letters && is_digits (drop (length letters) word)

-- a word is the number of a finding
unfoldable pub is_number : List ℕ → Bool
is_number word =
    list_any (is_numbered word) (codes "E" ∷ codes "L" ∷ codes "S" ∷ codes "A" ∷ codes "T" ∷ codes "TE" ∷ [])

-- words are a number, a number and a place, or a number and a stack: a service and a kind
abbrev pub is_finding : List (List ℕ) → Bool
is_finding (number ∷ []) = is_number number
is_finding (number ∷ place ∷ []) = is_number number
is_finding (number ∷ service ∷ kind ∷ []) = is_number number && is_some (kind_named kind)
is_finding words = false
