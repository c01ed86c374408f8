-- The decisions of `--decision`, in the form in which `paths` prints a set of codes: `any`, `but:CODE,..`, or `CODE,..`.
use Rattle.std.specs.Prelude.{ℕ, ◌==◌, Bool, false, not, nat_eq, List, [], ◌∷◌, codes, drop, is_some, position, Option, Some, None, option_map, if◌then◌else◌}
use Rattle.std.specs.List.{list_all, list_any, slice_split, starts_with}
use Rattle.std.specs.Option.{option_map_or}
use Rattle.std.specs.Str.{bytes_eq}
use Rattle.pam_codes.specs.Code.{all_codes, code_names, same_name}
use Rattle.pam_codes.specs.Set.{codes_where, is_in}
use Rattle.clap.specs.Words.{Row, Text, first_of}

unfoldable pub code_named : Text → Option ℕ
code_named name = position (λ n. same_name n name) code_names

-- a value before the others, if each is there
abbrev pub both : {A : Type 0} → Option A → Option (List A) → Option (List A)
both (Some value) (Some rest) = Some (value ∷ rest)
both (Some value) None = None
both None rest = None

-- the codes with these names, in order. Each must be the name of one
abbrev pub codes_named : List Text → Option (List ℕ)
codes_named [] = Some []
codes_named (name ∷ names) = both (code_named name) (codes_named names)

-- the parts of a text before, between and after its commas
abbrev pub comma_parts : Text → List Text
comma_parts text = slice_split (λ b. b == 44) text

-- whether a text is the name of this code
abbrev pub names_code : ℕ → Text → Bool
names_code code name = option_map_or (λ named. code == named) (code_named name) false

-- the set of the codes with these names. Each must be the name of one
unfoldable pub set_named : List Text → Option (List ℕ)
set_named names =
    if list_all (λ name. is_some (code_named name)) names then Some (codes_where (λ code. list_any (names_code code) names)) else None

unfoldable pub set_of_text : Text → Option (List ℕ)
set_of_text text =
    if bytes_eq text (codes "any") then Some all_codes
    else if starts_with nat_eq text (codes "but:")
    then option_map (λ missing. codes_where (λ code. not (is_in code missing))) (set_named (comma_parts (drop 4 text)))
    else set_named (comma_parts text)

abbrev pub if_given : Option Text → Option (Option (List ℕ))
if_given None = Some None
if_given (Some text) = option_map (λ set. Some set) (set_of_text text)

-- the decisions, if they are given. Each must be the name of a code
abbrev pub decisions_of : List Row → Option (Option (List ℕ))
decisions_of rows = if_given (first_of (codes "decision") rows)
