-- What is shown of the bytes of a line, in which no byte can end the line or move what is shown beside it.
use Rattle.std.specs.Prelude.{ℕ, zero, suc, ◌+◌, ◌-◌, ◌*◌, ◌==◌, ◌&&◌, nat_le, nat_lt, not, Bool, true, if◌then◌else◌}
use Rattle.std.specs.Prelude.{List, [], ◌∷◌, codes, slice_index_or, take}
use Rattle.std.specs.List.{flat_map}
use Rattle.pam_render.specs.sentences.Shown.{continues, is_between, is_hidden, shown_byte, three_bytes, two_bytes}

-- CHARACTERS in UTF-8

-- the character of four bytes; 0 where they are none
abbrev pub four_bytes : ℕ → ℕ → ℕ → ℕ → ℕ
four_bytes first second third fourth =
    if (nat_le 240 first && nat_lt first 248) && continues second && continues third && continues fourth
    then (first - 240) * 262144 + (second - 128) * 4096 + (third - 128) * 64 + (fourth - 128) else 0

-- a character of one, two, three or four bytes that can be seen. One that has more bytes than it needs is none, and so is a half of a
-- pair in UTF-16
abbrev pub is_of_one : ℕ → Bool
is_of_one character = is_between 32 126 character

abbrev pub is_of_two : ℕ → Bool
is_of_two character = nat_le 128 character && not (is_hidden character)

abbrev pub is_of_three : ℕ → Bool
is_of_three character = nat_le 2048 character && not (is_between 55296 57343 character) && not (is_hidden character)

abbrev pub is_of_four : ℕ → Bool
is_of_four character = is_between 65536 1114111 character

-- the number of bytes of the character at the front, if it can be seen; else 0
abbrev pub seen_len : List ℕ → ℕ
seen_len bytes =
    let first = slice_index_or bytes 0 0 in
    let second = slice_index_or bytes 1 0 in
    let third = slice_index_or bytes 2 0 in
    let fourth = slice_index_or bytes 3 0 in
    if is_of_one first then 1
    else if is_of_two (two_bytes first second) then 2
    else if is_of_three (three_bytes first second third) then 3
    else if is_of_four (four_bytes first second third fourth) then 4
    else 0

-- CELLS

pub data Cell : Type 0 where
  -- a character that can be seen, as it stands
  Seen : List ℕ → Cell
  -- a tab, as a space
  Tab : Cell
  -- any other byte, by its number
  Numbered : ℕ → Cell

-- what is shown of the first byte, if no character that can be seen begins there
abbrev pub byte_cell : ℕ → Cell
byte_cell byte = if byte == 9 then Tab else Numbered byte

-- the first cell of bytes, of which this is the first
abbrev pub first_cell : ℕ → List ℕ → Cell
first_cell byte bytes = if nat_lt 0 (seen_len bytes) then Seen (take (seen_len bytes) bytes) else byte_cell byte

-- THE CELLS of bytes; the number given is that of the bytes at the front that belong to a cell before them
unfoldable pub cells : ℕ → List ℕ → List Cell
cells passed [] = []
cells zero (byte ∷ rest) = first_cell byte (byte ∷ rest) ∷ cells (seen_len (byte ∷ rest) - 1) rest
cells (suc passed) (byte ∷ rest) = cells passed rest

abbrev pub cell_text : Cell → List ℕ
cell_text (Seen bytes) = bytes
cell_text Tab = codes " "
cell_text (Numbered byte) = shown_byte true byte

-- THE TEXT of cells
abbrev pub cells_text : List Cell → List ℕ
cells_text shown = flat_map cell_text shown

-- the columns of a cell, in which a character counts as one, and of cells
abbrev pub columns : Cell → ℕ
columns (Seen bytes) = 1
columns Tab = 1
columns (Numbered byte) = 4

unfoldable pub width : List Cell → ℕ
width [] = 0
width (cell ∷ rest) = columns cell + width rest

-- the first cells that fit into columns, and the last ones
unfoldable pub first_within : ℕ → List Cell → List Cell
first_within room [] = []
first_within room (cell ∷ rest) = if nat_lt room (columns cell) then [] else cell ∷ first_within (room - columns cell) rest

unfoldable pub last_within : ℕ → List Cell → List Cell
last_within room [] = []
last_within room (cell ∷ rest) = if nat_lt room (width (cell ∷ rest)) then last_within room rest else cell ∷ rest
