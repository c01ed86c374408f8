-- The lines of a table, and the parts of a line: access.conf(5), group(5).
use Rattle.std.specs.Prelude.{ℕ, ◌+◌, ◌-◌, Bool, true, false, List, [], ◌∷◌, length, take, drop, nat_eq, if◌then◌else◌, Option, Result, Err}
use Rattle.std.specs.List.{list_all, slice_split, prefix_len, suffix_len, ends_with}
use Rattle.std.specs.Option.{option_map, option_map_or}
unfoldable pub use Rattle.pam_text.specs.Cut.{is_among}
pub use Rattle.pam_text.specs.Cut.{cut_at}
-- a space or a tab
pub use Rattle.pam_text.specs.Blanks.{is_table_blank as is_blank}
use Rattle.pam_text.specs.Source.{source_fault}
use Rattle.pam_text.specs.declared.source.SourceFault.{SourceFault}
use Rattle.pam_text.specs.declared.source.SourceFault.TheVariants as sources
use Rattle.pam_tables.specs.declared.error.TableFault.{TableFault}
use Rattle.pam_tables.specs.declared.error.TableFault.TheVariants.{NulByte, TableTooLong}

-- the fault of the bytes as a whole, with its line
abbrev pub fault_at_line : SourceFault → TableFault × ℕ
fault_at_line sources.TooLong = (TableTooLong, 0)
fault_at_line (sources.NulByte line) = (NulByte, line)

abbrev pub fault_of_bytes : List ℕ → Option (TableFault × ℕ)
fault_of_bytes bytes = option_map fault_at_line (source_fault bytes)

-- the fault of the bytes as a whole, or else what was read
abbrev pub checked : {A : Type 0} → List ℕ → Result A (TableFault × ℕ) → Result A (TableFault × ℕ)
checked bytes read = option_map_or Err (fault_of_bytes bytes) read

-- whether a text is not empty
abbrev pub has_bytes : List ℕ → Bool
has_bytes [] = false
has_bytes (b ∷ bs) = true

-- a line without a carriage return at its end
abbrev pub without_return : List ℕ → List ℕ
without_return line = if ends_with nat_eq line (13 ∷ []) then take (length line - 1) line else line

-- lines with their numbers, counted from this one
abbrev pub numbered : ℕ → List (List ℕ) → List (ℕ × List ℕ)
numbered number [] = []
numbered number (line ∷ lines) = (number, without_return line) ∷ numbered (number + 1) lines

-- the lines of a text, numbered from this one
unfoldable pub lines_from : ℕ → List ℕ → List (ℕ × List ℕ)
lines_from number bytes = numbered number (slice_split (is_among (10 ∷ [])) bytes)

-- the remaining lines, of which there are none after the last was yielded
unfoldable pub lines_left : Bool → ℕ → List ℕ → List (ℕ × List ℕ)
lines_left true number bytes = []
lines_left false number bytes = lines_from number bytes

-- a line of blanks only
abbrev pub is_blank_line : List ℕ → Bool
is_blank_line line = list_all is_blank line

-- a text without blanks at its start, at its end, and at both
abbrev pub trimmed_start : List ℕ → List ℕ
trimmed_start text = drop (prefix_len is_blank text) text

abbrev pub trimmed_end : List ℕ → List ℕ
trimmed_end text = take (length text - suffix_len is_blank text) text

abbrev pub trimmed : List ℕ → List ℕ
trimmed text = trimmed_end (trimmed_start text)
