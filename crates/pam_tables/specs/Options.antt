-- The arguments of pam_access(8).
use Rattle.std.specs.Prelude.{ℕ, Bool, not, List, [], ◌∷◌, length, take, drop, codes, if◌then◌else◌, Option, Some, None}
use Rattle.std.specs.List.{list_any}
use Rattle.std.specs.Str.{bytes_eq}

-- the separators of fields and of lists, and whether plain names may name groups
pub record Options : Type 0 where
  pub field_separators : List ℕ
  pub list_separators : List ℕ
  pub group_names : Bool

-- the value of an argument that begins with a key: the text after the key
abbrev pub value_of : List ℕ → List ℕ → Option (List ℕ)
value_of key argument = if bytes_eq (take (length key) argument) key then Some (drop (length key) argument) else None

abbrev pub or_else : {A : Type 0} → Option A → Option A → Option A
or_else None other = other
or_else (Some x) other = Some x

-- the value of the last argument with a key
abbrev pub last_value : List ℕ → List (List ℕ) → Option (List ℕ)
last_value key [] = None
last_value key (argument ∷ arguments) = or_else (last_value key arguments) (value_of key argument)

-- the default, if no value is given or it is empty
abbrev pub given_or : List ℕ → Option (List ℕ) → List ℕ
given_or default None = default
given_or default (Some []) = default
given_or default (Some (b ∷ bs)) = b ∷ bs

-- THE OPTIONS of arguments: `fieldsep=`, `listsep=` and `nodefgroup`
unfoldable pub options_of : List (List ℕ) → Options
options_of arguments = record {
  field_separators = given_or (codes ":") (last_value (codes "fieldsep=") arguments);
  list_separators = given_or (32 ∷ 9 ∷ 44 ∷ []) (last_value (codes "listsep=") arguments);
  group_names = not (list_any (λ a. bytes_eq a (codes "nodefgroup")) arguments);
}
