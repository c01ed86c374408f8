-- The rows of a facts file: NAME [ARGUMENT [ARGUMENT]] checks|ignores|passes|fails [KIND,... CODE ...]...
-- and those of words that modules know: NAME knows ARGUMENT [KIND,...]
use Rattle.std.specs.Prelude.{ℕ, zero, suc, ◌==◌, ◌&&◌, Bool, not, nat_eq, List, [], ◌∷◌, codes, if◌then◌else◌, Option, Some, None, Result, Ok, Err}
use Rattle.std.specs.List.{ends_with, list_any, starts_with}
use Rattle.std.specs.Option.{option_and_then, option_map, option_or}
use Rattle.std.specs.Str.{bytes_eq}
use Rattle.pam_facts.specs.Codes.{codes_said}
use Rattle.pam_facts.specs.Facts.{unknown}
use Rattle.pam_facts.specs.Kinds.{all_kinds, kinds_named}
use Rattle.pam_facts.specs.Words.{words_of}
use Rattle.pam_facts.specs.declared.error.FactsFault.{FactsFault}
use Rattle.pam_facts.specs.declared.error.FactsFault.TheVariants.{BadFact}
use Rattle.pam_facts.specs.declared.kinds.Kinds.{Kinds}
use Rattle.pam_facts.specs.declared.row.Class.{Class}
use Rattle.pam_facts.specs.declared.row.Class.TheVariants.{Checks, Fails, Ignores, Passes}
use Rattle.pam_facts.specs.declared.row.CodesByKind.{CodesByKind}
use Rattle.pam_facts.specs.declared.row.Fact.{Fact}

-- a row: the name of a module, the arguments that its rule must have, and what is then known of it. Or an argument that the module
-- knows, and the kinds in which it does; such a row tells nothing else, and has the fact of a module of which nothing is known
pub record Row : Type 0 where
  pub name : List ℕ
  pub arguments : List (List ℕ)
  pub fact : Fact
  pub knows : Option Kinds

abbrev pub class_named : List ℕ → Option Class
class_named word =
    if bytes_eq word (codes "checks") then Some Checks
    else if bytes_eq word (codes "ignores") then Some Ignores
    else if bytes_eq word (codes "passes") then Some Passes
    else if bytes_eq word (codes "fails") then Some Fails
    else None

-- what is before the codes of a row: arguments and the class; and the words after it
pub record Head : Type 0 where
  pub arguments : List (List ℕ)
  pub class : Class
  pub rest : List (List ℕ)

abbrev pub class_first : List ℕ → List (List ℕ) → Option Head
class_first word words = option_map (λ class. record { arguments = []; class = class; rest = words }) (class_named word)

abbrev pub with_argument : List ℕ → Head → Head
with_argument argument head = record head { arguments = argument ∷ head.arguments }

-- at most this many arguments, up to the first word that is a class
unfoldable pub head_of : ℕ → List (List ℕ) → Option Head
head_of most [] = None
head_of zero (word ∷ words) = class_first word words
head_of (suc most) (word ∷ words) = option_or (class_first word words) (option_map (with_argument word) (head_of most words))

-- whether a word is the name of a module: it has no folder and no `.so`
abbrev pub is_name : List ℕ → Bool
is_name word = not (list_any (λ b. b == 47) word) && not (ends_with nat_eq word (codes ".so"))

abbrev pub told_row : List ℕ → Head → CodesByKind → Row
told_row name head codes =
    record { name = name; arguments = head.arguments; fact = record { class = head.class; codes = codes }; knows = None }

abbrev pub row_with_head : List ℕ → Head → Option Row
row_with_head name head = option_map (told_row name head) (codes_said head.rest)

-- the row of a module with a class
abbrev pub row_with_class : List ℕ → List (List ℕ) → Option Row
row_with_class name words = option_and_then (row_with_head name) (head_of 2 words)

abbrev pub knowing_row : List ℕ → List ℕ → Kinds → Row
knowing_row name argument kinds = record { name = name; arguments = argument ∷ []; fact = unknown; knows = Some kinds }

-- one word of kinds, or else all
abbrev pub kinds_after : List (List ℕ) → Option Kinds
kinds_after [] = Some all_kinds
kinds_after (word ∷ []) = kinds_named word
kinds_after (word ∷ other ∷ words) = None

-- the row of an argument that a module knows
abbrev pub row_with_argument : List ℕ → List (List ℕ) → Option Row
row_with_argument name [] = None
row_with_argument name (argument ∷ words) = option_map (knowing_row name argument) (kinds_after words)

abbrev pub row_after : List ℕ → List (List ℕ) → Option Row
row_after name [] = None
row_after name (word ∷ words) = if bytes_eq word (codes "knows") then row_with_argument name words else row_with_class name (word ∷ words)

abbrev pub or_bad : Option Row → Result (Option Row) FactsFault
or_bad None = Err BadFact
or_bad (Some row) = Ok (Some row)

abbrev pub row_of_words : List (List ℕ) → Result (Option Row) FactsFault
row_of_words [] = Ok None
row_of_words (name ∷ words) = if is_name name then or_bad (row_after name words) else Err BadFact

-- THE ROW of a line. A comment or a blank line has none
unfoldable pub row_of : List ℕ → Result (Option Row) FactsFault
row_of line = if starts_with nat_eq line (codes "#") then Ok None else row_of_words (words_of line)
