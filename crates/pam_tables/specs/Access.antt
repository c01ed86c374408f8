-- Access tables: access.conf(5).
use Rattle.std.specs.Prelude.{ℕ, ◌==◌, ◌&&◌, ◌||◌, not, Bool, List, [], ◌∷◌, length, map, codes, nat_eq, if◌then◌else◌, Option, Some, None, Result, Ok, Err}
use Rattle.std.specs.List.{starts_with}
use Rattle.std.specs.Option.{option_map, option_map_or}
use Rattle.std.specs.Str.{bytes_eq}
use Rattle.pam_tables.specs.Error.{read_lines}
use Rattle.pam_tables.specs.Groups.{Group}
use Rattle.pam_tables.specs.Lines.{checked, cut_at, is_among, is_blank_line, lines_from, trimmed}
use Rattle.pam_tables.specs.Lists.{list_matches}
use Rattle.pam_tables.specs.Login.{LoginText, OriginText, origin_of}
use Rattle.pam_tables.specs.Options.{Options}
use Rattle.pam_tables.specs.Tokens.{UserPattern, OriginPattern, tokens_of, each_token, user_token, user_mark, origin_token, origin_mark}
use Rattle.pam_tables.specs.declared.access.AccessAnswer.{AccessAnswer}
use Rattle.pam_tables.specs.declared.access.AccessAnswer.TheVariants.{Granted, Denied}
use Rattle.pam_tables.specs.declared.access.Permission.{Permission}
use Rattle.pam_tables.specs.declared.access.Permission.TheVariants.{Grant, Deny}
use Rattle.pam_tables.specs.declared.error.TableFault.{TableFault}
use Rattle.pam_tables.specs.declared.error.TableFault.TheVariants.{MissingField, BadPermission}

-- a line of a table, with its number
pub record LineText : Type 0 where
  pub number : ℕ
  pub permission : Permission
  pub users : List UserPattern
  pub origins : List OriginPattern

-- a table: its lines, and whether plain names of users may name groups
pub record TableText : Type 0 where
  pub lines : List LineText
  pub group_names : Bool

-- ---- what a table's bytes spell

infixl 10 ◌>>=◌
abbrev pub ◌>>=◌ : {A B : Type 0} → Result A TableFault → (A → Result B TableFault) → Result B TableFault
(Ok x) >>= f = f x
(Err fault) >>= f = Err fault

unfoldable pub permission_of : List ℕ → Result Permission TableFault
permission_of text =
    if bytes_eq text (codes "+") then Ok Grant
    else if bytes_eq text (codes "-") then Ok Deny
    else Err BadPermission

-- whether a line is a comment or blank
unfoldable pub is_passed_over : List ℕ → Bool
is_passed_over line = starts_with nat_eq line (codes "#") || is_blank_line line

abbrev pub has_tokens : List ℕ → List ℕ → Bool
has_tokens separators text = not (length (tokens_of separators text) == 0)

-- the line of three fields. A missing field is the first fault, then a bad permission, then the tokens from the left
unfoldable pub line_of_fields : List ℕ → ℕ → List ℕ → List ℕ → List ℕ → Result LineText TableFault
line_of_fields separators number permission users origins =
    if has_tokens separators users && has_tokens separators origins
    then (permission_of (trimmed permission)
    >>= λ p. each_token user_token (tokens_of separators users)
    >>= λ us. each_token origin_token (tokens_of separators origins)
    >>= λ os. Ok (record { number = number; permission = p; users = us; origins = os }))
    else Err MissingField

-- the permission, the users and the origins: the line cut at its first two separators
unfoldable pub fields_of : List ℕ → List ℕ → Option (List ℕ × List ℕ × List ℕ)
fields_of separators line =
    option_map_or (λ p. option_map (λ q. (p.0, q.0, q.1)) (cut_at (is_among separators) p.1)) (cut_at (is_among separators) line) None

abbrev pub some_line : Result LineText TableFault → Result (Option LineText) TableFault
some_line (Ok line) = Ok (Some line)
some_line (Err fault) = Err fault

-- a line, unless it is a comment or blank
unfoldable pub access_line : List ℕ → List ℕ → ℕ → List ℕ → Result (Option LineText) TableFault
access_line field_separators list_separators number line =
    if is_passed_over line then Ok None
    else some_line (option_map_or (λ f. line_of_fields list_separators number f.0 f.1 f.2) (fields_of field_separators line) (Err MissingField))

-- the lines of bytes, or the first fault
abbrev pub lines_of : List ℕ → List ℕ → List ℕ → Result (List LineText) (TableFault × ℕ)
lines_of field_separators list_separators bytes = read_lines (access_line field_separators list_separators) (lines_from 1 bytes)

-- the lines, where none has a fault
abbrev pub table_lines : Result (List LineText) (TableFault × ℕ) → List LineText
table_lines (Ok lines) = lines
table_lines (Err e) = []

abbrev pub table_with : Bool → Result (List LineText) (TableFault × ℕ) → Result TableText (TableFault × ℕ)
table_with group_names (Ok lines) = Ok (record { lines = lines; group_names = group_names })
table_with group_names (Err e) = Err e

-- THE TABLE of bytes and options, or its first fault
unfoldable pub table_of : Options → List ℕ → Result TableText (TableFault × ℕ)
table_of options bytes =
    checked bytes (table_with options.group_names (lines_of options.field_separators options.list_separators bytes))

-- ---- what a table decides

abbrev pub users_match : List Group → Bool → List ℕ → List UserPattern → Bool
users_match groups by_name user tokens = list_matches (map (user_mark groups by_name user) tokens)

abbrev pub origins_match : OriginText → List OriginPattern → Bool
origins_match origin tokens = list_matches (map (origin_mark origin) tokens)

abbrev pub line_matches : List Group → Bool → List ℕ → OriginText → LineText → Bool
line_matches groups by_name user origin line = users_match groups by_name user line.users && origins_match origin line.origins

abbrev pub answer_with : Permission → ℕ → AccessAnswer
answer_with Grant number = Granted (Some number)
answer_with Deny number = Denied number

-- the first line whose users and origins both match decides; if no line matches, the login is granted
abbrev pub first_answer : List Group → Bool → List ℕ → OriginText → List LineText → AccessAnswer
first_answer groups by_name user origin [] = Granted None
first_answer groups by_name user origin (line ∷ lines) =
    if line_matches groups by_name user origin line then answer_with line.permission line.number else first_answer groups by_name user origin lines

-- THE ANSWER of a table
unfoldable pub access_answer : TableText → LoginText → List Group → AccessAnswer
access_answer table login groups = first_answer groups table.group_names login.user (origin_of login) table.lines
