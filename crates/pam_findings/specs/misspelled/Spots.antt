-- The spot of the word that a finding is about: where it begins in its file, and how many of its bytes are there.
use Rattle.std.specs.Prelude.{ℕ, zero, suc, ◌+◌, ◌-◌, ◌==◌, nat_eq, not, Bool, false, List, count_by, drop, map, reverse, slice_get, take, Option}
use Rattle.std.specs.List.{common_prefix_len, enumerate_from, prefix_len}
use Rattle.std.specs.Option.{option_map}
use Rattle.pam_text.specs.Text.{joined, uncommented}
use Rattle.pam_findings.specs.declared.misspelled.spot.Spot.{Spot}

abbrev pub is_feed : ℕ → Bool
is_feed b = b == 10

-- the bytes of the first line, and what is left after its line feed
abbrev pub line_len : List ℕ → ℕ
line_len bytes = prefix_len (λ b. not (is_feed b)) bytes

abbrev pub after_feed : List ℕ → List ℕ
after_feed bytes = drop (line_len bytes + 1) bytes

-- what is left after this many line feeds
unfoldable pub after_feeds : ℕ → List ℕ → List ℕ
after_feeds zero bytes = bytes
after_feeds (suc passed) bytes = after_feed (after_feeds passed bytes)

-- the bytes of a file from the line with a number on
abbrev pub from_line : ℕ → List ℕ → List ℕ
from_line number bytes = after_feeds (number - 1) bytes

-- of each byte of a text, which has these bytes without comments and with lines joined: its offset in the file
abbrev pub offsets_from : ℕ → List ℕ → List ℕ
offsets_from first bytes = map (λ m. m.0) (joined (uncommented false (enumerate_from first bytes)))

-- the offset in the file of the byte of the text that comes after this many
abbrev pub offset_of : List ℕ → ℕ → Option ℕ
offset_of bytes place = slice_get (offsets_from 0 bytes) place

-- the spot at an offset of bytes that begin with a line: its line and column, and how many bytes there are those of the word, which are
-- fewer than the word has only where it goes on in the next line
abbrev pub spot_after : ℕ → List ℕ → List ℕ → ℕ → Spot
spot_after number bytes word offset = record {
  line = number + count_by is_feed (take offset bytes);
  column = line_len (reverse (take offset bytes)) + 1;
  len = common_prefix_len nat_eq word (drop offset bytes);
}

-- THE SPOT of a word that begins at a place of the text: the bytes of the file there are those of the word
abbrev pub spot_of : ℕ → List ℕ → ℕ × List ℕ → Option Spot
spot_of number bytes piece = option_map (spot_after number bytes piece.1) (offset_of bytes piece.0)
