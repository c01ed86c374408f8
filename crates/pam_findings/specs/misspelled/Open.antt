-- The word of a line whose bracket stays open: pam.conf(5), on brackets in arguments.
use Rattle.std.specs.Prelude.{ℕ, zero, suc, Bool, List, Option, Some, None, drop, length, take, if◌then◌else◌}
use Rattle.std.specs.Option.{is_some}
use Rattle.pam_conf.specs.Words.{words_of}

-- a line is words and blanks, so each of its brackets is closed
abbrev pub is_closed : List ℕ → Bool
is_closed line = is_some (words_of line)

-- of the starts of a line with this many bytes at most, the length of the longest that is closed
unfoldable pub closed_len : ℕ → List ℕ → ℕ
closed_len zero line = 0
closed_len (suc len) line = if is_closed (take (suc len) line) then suc len else closed_len len line

-- THE WORD WHOSE BRACKET STAYS OPEN, beside its start: all of a line that is not closed after the longest start of it that is closed
abbrev pub open_piece : List ℕ → Option (ℕ × List ℕ)
open_piece line = if is_closed line then None else Some (closed_len (length line) line, drop (closed_len (length line) line) line)
