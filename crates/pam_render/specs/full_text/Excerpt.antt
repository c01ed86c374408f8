-- The line of a file that a finding is about, with its number before it and carets below the word.
use Rattle.std.specs.Prelude.{ℕ, ◌+◌, ◌-◌, nat_le, nat_lt, max, min, Bool, List, [], ◌∷◌, ◌++◌, codes, decimal, drop, length, replicate, take}
use Rattle.std.specs.Prelude.{if◌then◌else◌, Option, None, Some}
use Rattle.std.specs.List.{concat}
use Rattle.pam_findings.specs.misspelled.Spots.{line_len}
use Rattle.pam_findings.specs.declared.misspelled.spot.Spot.{Spot}
use Rattle.pam_render.specs.declared.full_text.window.TheConstants.{MAX_BEFORE, MAX_BYTES, MAX_COLUMNS}
use Rattle.pam_render.specs.full_text.Cells.{cells, cells_text, first_within, last_within, width}

-- THE BYTES THAT ARE LOOKED AT, of bytes from a line on in which a word begins after some of them: before the word, and from it on to the
-- end of the line, on each side more than the columns can show, since no character has more than four bytes
abbrev pub near_before : List ℕ → ℕ → List ℕ
near_before bytes start = let front = take start bytes in drop (length front - MAX_BYTES) front

abbrev pub first_line : List ℕ → List ℕ
first_line bytes = take (line_len bytes) bytes

abbrev pub near_after : List ℕ → ℕ → List ℕ
near_after bytes start = first_line (take MAX_BYTES (drop start bytes))

-- two points stand for what is left out of bytes for which there are so many columns
abbrev pub points : ℕ → List ℕ → List ℕ
points columns bytes = if nat_lt columns (width (cells 0 bytes)) then codes ".." else []

-- WHAT IS SHOWN of these
module _ (before after : List ℕ) where
  -- all of them fit
  abbrev pub is_whole : Bool
  is_whole = nat_le (width (cells 0 before) + width (cells 0 after)) MAX_COLUMNS

  -- the columns for what stands before the word. Of a line that does not fit, these are few
  abbrev pub room_before : ℕ
  room_before = if is_whole then MAX_COLUMNS else MAX_BEFORE

  -- those for the whole line, but for two points on each side
  abbrev pub room : ℕ
  room = if is_whole then MAX_COLUMNS else MAX_COLUMNS - 4

  abbrev pub width_before : ℕ
  width_before = width (last_within room_before (cells 0 before))

  abbrev pub room_after : ℕ
  room_after = room - width_before

  -- what is shown before the word, and from it on
  abbrev pub text_before : List ℕ
  text_before = points room_before before ++ cells_text (last_within room_before (cells 0 before))

  abbrev pub text_after : List ℕ
  text_after = cells_text (first_within room_after (cells 0 after)) ++ points room_after after

  -- the columns before the word
  abbrev pub caret_column : ℕ
  caret_column = length (points room_before before) + width_before

  -- the columns of a word of some bytes, as far as there is room for them, and at least one
  abbrev pub caret_count : ℕ → ℕ
  caret_count len = max 1 (min room_after (width (cells 0 (take len after))))

-- THE LINES of an excerpt

abbrev pub spaces : ℕ → List ℕ
spaces count = replicate count 32

-- an empty line, and then the line of the file with its number
abbrev pub line_lines : ℕ → List ℕ → List ℕ → List ℕ
line_lines number before after = concat
    (spaces (length (decimal number)) ∷ codes " |\n" ∷ decimal number ∷ codes " | " ∷ text_before before after ∷ text_after before after ∷ codes "\n" ∷ [])

-- the carets below a word of some bytes
abbrev pub caret_line : ℕ → List ℕ → List ℕ → ℕ → List ℕ
caret_line number before after len = concat
    (spaces (length (decimal number)) ∷ codes " | " ∷ spaces (caret_column before after) ∷ replicate (caret_count before after len) 94 ∷ codes "\n" ∷ [])

abbrev pub carets_if_any : ℕ → List ℕ → List ℕ → Option Spot → List ℕ
carets_if_any number before after None = []
carets_if_any number before after (Some spot) = caret_line number before after spot.len

-- the bytes of its line before a word
abbrev pub start_of : Option Spot → ℕ
start_of None = 0
start_of (Some spot) = spot.column - 1

-- those lines, and an empty one
abbrev pub lines_of : ℕ → List ℕ → List ℕ → Option Spot → List ℕ
lines_of number before after spot = line_lines number before after ++ carets_if_any number before after spot ++ codes "\n"

-- AN EXCERPT of bytes from a line with a number on, with carets if a word is meant; nothing where no byte is left
unfoldable pub excerpt : ℕ → List ℕ → Option Spot → List ℕ
excerpt number [] spot = []
excerpt number (byte ∷ bytes) spot =
    lines_of number (near_before (byte ∷ bytes) (start_of spot)) (near_after (byte ∷ bytes) (start_of spot)) spot
