-- The values of arguments that have to be a number or one of some words.
use Rattle.std.specs.Prelude.{ℕ, ◌==◌, ◌&&◌, ◌||◌, Bool, not, List, [], ◌∷◌, codes, if◌then◌else◌, length, nat_le}
use Rattle.std.specs.Char.{is_ascii_digit}
use Rattle.std.specs.List.{list_all, list_any}
use Rattle.std.specs.Str.{bytes_eq}
use Rattle.pam_codes.specs.Code.{same_name}
use Rattle.pam_facts.specs.arguments.Cuts.{parts_of}

-- which values are right
pub data ValueForm : Type 0 where
  Number : ValueForm
  NumberOrNever : ValueForm
  Octal : ValueForm
  Boolean : ValueForm
  -- words with `|` between them
  OneOf : List ℕ → ValueForm

-- a text of the table that says which
unfoldable pub form_named : List ℕ → ValueForm
form_named text =
    if bytes_eq text (codes "number") then Number
    else if bytes_eq text (codes "number-or-never") then NumberOrNever
    else if bytes_eq text (codes "octal") then Octal
    else if bytes_eq text (codes "bool") then Boolean
    else OneOf text

abbrev pub is_sign : ℕ → Bool
is_sign b = b == 43 || b == 45

-- a value without one sign in front
unfoldable pub unsigned : List ℕ → List ℕ
unsigned [] = []
unsigned (b ∷ bs) = if is_sign b then bs else b ∷ bs

abbrev pub is_octal_digit : ℕ → Bool
is_octal_digit b = nat_le 48 b && nat_le b 55

-- at least one digit, and nothing else
abbrev pub are_digits : (ℕ → Bool) → List ℕ → Bool
are_digits is_digit text = not (length text == 0) && list_all is_digit text

-- THE NUMBERS: one sign or none, and digits
abbrev pub is_number : (ℕ → Bool) → List ℕ → Bool
is_number is_digit value = are_digits is_digit (unsigned value)

-- the words of a boolean value, each in any case
unfoldable pub booleans : List (List ℕ)
booleans =
    codes "true" ∷ codes "yes" ∷ codes "on" ∷ codes "1" ∷ codes "false" ∷ codes "no" ∷ codes "off" ∷ codes "0" ∷ []

-- THE VALUES that are right
abbrev pub takes : ValueForm → List ℕ → Bool
takes Number value = is_number is_ascii_digit value
takes NumberOrNever value = is_number is_ascii_digit value || bytes_eq value (codes "never")
takes Octal value = is_number is_octal_digit value
takes Boolean value = list_any (same_name value) booleans
takes (OneOf words) value = list_any (bytes_eq value) (parts_of 124 words)
