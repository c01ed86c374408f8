-- Where released Linux-PAM reads a table of time.conf(5) otherwise than the manual page says: T1 to T4.
use Rattle.std.specs.Prelude.{ℕ, ◌==◌, ◌&&◌, ◌||◌, not, Bool, false, List, [], ◌∷◌, codes, length, nat_le}
use Rattle.std.specs.Prelude.{if◌then◌else◌, Option, Some, None}
use Rattle.std.specs.Char.{is_ascii_alphanumeric}
use Rattle.std.specs.List.{list_all, list_any, slice_split}
use Rattle.std.specs.Option.{option_map_or}
use Rattle.pam_text.specs.Blanks.{is_text_blank}
use Rattle.pam_text.specs.Text.{text_lines, text_of}
use Rattle.pam_tables.specs.times.Entry.{entry_of, goes_past_midnight}
use Rattle.pam_tables.specs.times.Logic.{is_token_byte}
use Rattle.pam_tables.specs.times.Reading.{FieldTexts, cut_fields}
use Rattle.pam_released.specs.Lines.{has_hash, manual_lines_of, pieces}
use Rattle.pam_released.specs.tables.Findings.{found_in}
use Rattle.pam_released.specs.declared.tables.difference.TableDifference.{TableDifference}
use Rattle.pam_released.specs.declared.tables.difference.TableDifference.TheVariants.{TimeNoLineFeed, OddBytes, LongField, FinishMinute}
use Rattle.pam_released.specs.declared.tables.finding.TableFinding.{TableFinding}

-- ---- the last line

abbrev pub has_word : List ℕ → Bool
has_word line = not (list_all is_text_blank line)

abbrev pub last_of : List (List ℕ) → List ℕ
last_of [] = []
last_of (line ∷ []) = line
last_of (line ∷ next ∷ lines) = last_of (next ∷ lines)

-- the line that no line feed ends, which is empty where one ends the table, has a rule, and no comment: a `#` would end its times
unfoldable pub ends_in_rule : List ℕ → Bool
ends_in_rule bytes = not (has_hash (last_of (pieces bytes))) && has_word (last_of (manual_lines_of bytes))

-- the number of the last of some lines, or this one
abbrev pub last_number : ℕ → List (ℕ × List ℕ) → ℕ
last_number number [] = number
last_number number (line ∷ lines) = last_number line.0 lines

-- the number of the line with a rule that no line feed ends; 0 where there is none
unfoldable pub unfinished_line : List ℕ → ℕ
unfinished_line bytes = if ends_in_rule bytes then last_number 0 (text_lines (text_of 1 bytes)) else 0

-- ---- fields

-- what Linux-PAM takes as a part of a token: a letter, a digit, or one of these
abbrev pub is_known : ℕ → Bool
is_known b = is_ascii_alphanumeric b || list_any (λ s. s == b) (codes "*_-./:")

-- T2: a token of a field has another byte; a token is what is between blanks, `!`, `&` and `|`
abbrev pub has_odd_byte : List ℕ → Bool
has_odd_byte field = list_any (λ b. is_token_byte b && not (is_known b)) field

-- T3: more than Linux-PAM has room for
abbrev pub is_long : List ℕ → Bool
is_long field = nat_le 1000 (length field)

-- a token is an entry whose range goes past midnight
abbrev pub is_past_midnight : List ℕ → Bool
is_past_midnight token = option_map_or goes_past_midnight (entry_of token) false

-- T4: a token of the times goes past midnight. The empty text between two signs is no entry
abbrev pub has_past_midnight : List ℕ → Bool
has_past_midnight times = list_any is_past_midnight (slice_split (λ b. not (is_token_byte b)) times)

abbrev pub have_odd_byte : FieldTexts → Bool
have_odd_byte f = has_odd_byte f.services || (has_odd_byte f.terminals || has_odd_byte f.users)

abbrev pub have_long : FieldTexts → Bool
have_long f = is_long f.services || (is_long f.terminals || (is_long f.users || is_long f.times))

-- a test of the four fields of a line, if it has them
abbrev pub of_fields : (FieldTexts → Bool) → Option FieldTexts → Bool
of_fields test None = false
of_fields test (Some f) = test f

-- ---- lines

-- the rows, at a line of a table in which no line feed ends the line of this number
abbrev pub time_tests : ℕ → ℕ → List ℕ → List (Bool × TableDifference)
time_tests unfinished number line =
    (number == unfinished, TimeNoLineFeed)
    ∷ (of_fields have_odd_byte (cut_fields line), OddBytes)
    ∷ (of_fields have_long (cut_fields line), LongField)
    ∷ (of_fields (λ f. has_past_midnight f.times) (cut_fields line), FinishMinute)
    ∷ []

-- THE FINDINGS OF A TABLE, in the order of line and number
unfoldable pub time_findings : List ℕ → List TableFinding
time_findings bytes = found_in (time_tests (unfinished_line bytes)) (text_lines (text_of 1 bytes))
