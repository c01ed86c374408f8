-- Where a finding is in a document, in the units of the protocol.
use Rattle.std.specs.Prelude.{ℕ, zero, suc, ◌+◌, ◌-◌, ◌^◌, max, min, nat_lt, [], ◌∷◌, Option, Some, None, if◌then◌else◌, sum_by, take}
use Rattle.std.specs.Option.{option_map_or}
use Rattle.clap.specs.Words.{Text}
use Rattle.pam_text.specs.Cut.{cut_at, is_among}
use Rattle.pam_lsp.specs.declared.position.Encoding.{Encoding}
use Rattle.pam_lsp.specs.declared.position.Encoding.TheVariants.{Utf8, Utf16}
use Rattle.pam_lsp.specs.declared.position.Position.{Position}
use Rattle.pam_lsp.specs.declared.position.Range.{Range}
use Rattle.pam_lsp.specs.declared.position.Spot.{Spot}

-- what the byte of a UTF-8 text counts: in UTF-16 the first byte of a character beyond U+FFFF two, that of another one, and others none
abbrev pub units_of_byte : Encoding → ℕ → ℕ
units_of_byte Utf8 byte = 1
units_of_byte Utf16 byte = if nat_lt byte 128 then 1 else if nat_lt byte 192 then 0 else if nat_lt byte 240 then 1 else 2

abbrev pub units : Encoding → Text → ℕ
units encoding text = sum_by (units_of_byte encoding) text

-- ---- lines

abbrev pub before_line_feed : Text → Text
before_line_feed text = option_map_or (λ parts. parts.0) (cut_at (is_among (10 ∷ [])) text) text

abbrev pub after_line_feed : Text → Text
after_line_feed text = option_map_or (λ parts. parts.1) (cut_at (is_among (10 ∷ [])) text) []

-- the line with this number, from 0, without its line feed
abbrev pub line_at : ℕ → Text → Text
line_at zero text = before_line_feed text
line_at (suc n) text = line_at n (after_line_feed text)

-- ---- ranges. Lines and columns of findings count from 1, those of positions from 0

abbrev pub at : ℕ → ℕ → Position
at line character = record { line = line; character = character }

abbrev pub whole_line : ℕ → Range
whole_line number = record { start = at (max number 1 - 1) 0; end = at (max number 1) 0 }

-- the number of bytes up to the end of a word
abbrev pub bytes_through : Spot → ℕ
bytes_through spot = min (spot.column - 1 + spot.length) (2 ^ 64 - 1)

abbrev pub word_range : Encoding → Text → ℕ → Spot → Range
word_range encoding text number spot = record {
  start = at (number - 1) (units encoding (take (spot.column - 1) (line_at (number - 1) text)));
  end = at (number - 1) (units encoding (take (bytes_through spot) (line_at (number - 1) text)));
}

-- THE RANGE of a finding: its word, where it has one and the text of the file is at hand, else its line, the first of a file as a whole
abbrev pub range_of : Encoding → Option Text → Option ℕ → Option Spot → Range
range_of encoding (Some text) (Some number) (Some spot) = word_range encoding text number spot
range_of encoding text (Some number) spot = whole_line number
range_of encoding text None spot = whole_line 1
