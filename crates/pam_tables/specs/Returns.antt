-- Returns files: the codes that modules may return, by module name.
use Rattle.std.specs.Prelude.{ℕ, ◌==◌, Bool, false, List, [], ◌∷◌, codes, nat_eq, is_some, position, if◌then◌else◌, Option, Some, None, Result, Ok, Err}
use Rattle.std.specs.List.{list_any, list_all, starts_with}
use Rattle.std.specs.Map.{lookup}
use Rattle.std.specs.Option.{option_map_or}
use Rattle.std.specs.Str.{bytes_eq}
use Rattle.pam_codes.specs.Code.{code_names, same_name}
use Rattle.pam_codes.specs.Set.{codes_where}
use Rattle.pam_tables.specs.Error.{read_lines}
use Rattle.pam_tables.specs.Lines.{checked, lines_from}
use Rattle.pam_tables.specs.Named.{first_of_each_read}
use Rattle.pam_tables.specs.Tokens.{tokens_of}
use Rattle.pam_tables.specs.declared.error.TableFault.{TableFault}
use Rattle.pam_tables.specs.declared.error.TableFault.TheVariants.{BadCode, BadModule, MissingField}

-- a module name and the codes that it may return, in ascending order
abbrev pub ReturnLine : Type 0
ReturnLine = List ℕ × List ℕ

-- the codes of the first line with this name
abbrev pub codes_for : List ReturnLine → List ℕ → Option (List ℕ)
codes_for lines name = lookup (λ n. bytes_eq name n) lines

-- ---- what a file's bytes spell

-- the words of a line, separated by blanks
abbrev pub words_of : List ℕ → List (List ℕ)
words_of text = tokens_of (codes " \t") text

-- the code of a name, in either case
abbrev pub code_named : List ℕ → Option ℕ
code_named word = position (λ name. same_name name word) code_names

-- whether a word is a name of this code
abbrev pub names_code : ℕ → List ℕ → Bool
names_code code word = option_map_or (λ c. code == c) (code_named word) false

-- the codes of one or more words
unfoldable pub codes_of_words : List (List ℕ) → Result (List ℕ) TableFault
codes_of_words [] = Err MissingField
codes_of_words (word ∷ words) =
    if list_all (λ w. is_some (code_named w)) (word ∷ words) then Ok (codes_where (λ code. list_any (names_code code) (word ∷ words))) else Err BadCode

abbrev pub some_codes : List ℕ → Result (List ℕ) TableFault → Result (Option ReturnLine) TableFault
some_codes name (Ok codes) = Ok (Some (name, codes))
some_codes name (Err fault) = Err fault

-- the first word is the name of a module, which has no slash; the others are its codes
abbrev pub line_of_words : List (List ℕ) → Result (Option ReturnLine) TableFault
line_of_words [] = Ok None
line_of_words (name ∷ words) = if list_any (λ b. b == 47) name then Err BadModule else some_codes name (codes_of_words words)

-- the entry of a line. A comment or a blank line has none
unfoldable pub return_at : List ℕ → Result (Option ReturnLine) TableFault
return_at line = if starts_with nat_eq line (codes "#") then Ok None else line_of_words (words_of line)

-- the entries of a file, the first of each name, or its first fault
unfoldable pub returns_of : List ℕ → Result (List ReturnLine) (TableFault × ℕ)
returns_of bytes = checked bytes (first_of_each_read (read_lines (λ _ line. return_at line) (lines_from 1 bytes)))
