-- Whether the nearest right word is certain: no other right word is as near.
use Rattle.std.specs.Prelude.{ℕ, not, Bool, false, List, [], ◌∷◌, ◌++◌, map, Option}
use Rattle.std.specs.Char.{to_ascii_lowercase}
use Rattle.std.specs.List.{filter}
use Rattle.std.specs.Option.{option_and_then, option_map_or}
use Rattle.std.specs.Str.{bytes_eq}
use Rattle.pam_codes.specs.declared.error.ControlError.{ControlError}
use Rattle.pam_codes.specs.declared.error.ControlError.TheVariants.{BadAction, BadControl, BadValue}
use Rattle.pam_conf.specs.declared.error.FaultKind.{FaultKind}
use Rattle.pam_conf.specs.declared.error.FaultKind.TheVariants.{BadKind, Control, NoService}
use Rattle.pam_facts.specs.Paths.{module_name}
use Rattle.pam_facts.specs.arguments.Modules.{arguments_of, name_part}
use Rattle.pam_facts.specs.arguments.Table.{module_named}
use Rattle.pam_spelling.specs.Nearest.{nearest}
use Rattle.pam_findings.specs.misspelled.Actions.{after_sign}
use Rattle.pam_findings.specs.misspelled.RightWords.{controls, kinds, values}

-- the words but one
abbrev pub others : List (List ℕ) → List ℕ → List (List ℕ)
others words found = filter (λ word. not (bytes_eq word found)) words

-- A WORD IS ALONE among words if it is the nearest where it comes after all others: of words that are as near, the first is the nearest
abbrev pub is_alone : List (List ℕ) → List ℕ → List ℕ → Bool
is_alone words word found = option_map_or (bytes_eq found) (nearest (others words found ++ found ∷ []) word) false

-- the same of the word that is found, if one is
abbrev pub is_certain : List (List ℕ) → List ℕ → Option (List ℕ) → Bool
is_certain words word found = option_map_or (is_alone words word) found false

-- THE RIGHT WORDS with which one is compared that is wrong by a fault, without its case
abbrev pub words_of_control : ControlError → List (List ℕ)
words_of_control BadControl = controls
words_of_control BadValue = values
words_of_control BadAction = after_sign
words_of_control error = []

abbrev pub words_of_fault : FaultKind → List (List ℕ)
words_of_fault BadKind = kinds
words_of_fault (Control error) = words_of_control error
words_of_fault fault = []

abbrev pub is_certain_word : FaultKind → List ℕ → Option (List ℕ) → Bool
is_certain_word fault word found = is_certain (words_of_fault fault) (map to_ascii_lowercase word) found

-- the name of a file is compared with those of others, with its case
abbrev pub is_certain_fault : List (List ℕ) → FaultKind → List ℕ → Option (List ℕ) → Bool
is_certain_fault names NoService word found = is_certain names word found
is_certain_fault names fault word found = is_certain_word fault word found

-- those for an argument of the module at a path
abbrev pub known_arguments : List ℕ → List (List ℕ)
known_arguments path = option_map_or arguments_of (option_and_then module_named (module_name path)) []

abbrev pub is_certain_argument : List ℕ → List ℕ → Option (List ℕ) → Bool
is_certain_argument path word found = is_certain (known_arguments path) (name_part word) found
