-- pam.conf(5): a comment begins with `#` and goes up to the end of its line; a backslash before the end of a line continues it.
use Rattle.std.specs.Prelude.{ℕ, ◌+◌, Bool, true, false, List, [], ◌∷◌, ◌==◌, ◌&&◌, if◌then◌else◌}
use Rattle.std.specs.List.{list_all, slice_split}
use Rattle.pam_text.specs.Blanks.{is_text_blank}

-- a byte of a file, with the number of its line: one more than the line feeds before it
abbrev pub FileByte : Type 0
FileByte = ℕ × ℕ

-- the bytes of a file that begins in this line
unfoldable pub file_bytes : ℕ → List ℕ → List FileByte
file_bytes line [] = []
file_bytes line (b ∷ bs) = (line, b) ∷ file_bytes (if b == 10 then line + 1 else line) bs

-- first, each `#` goes with all bytes up to its line feed
unfoldable pub uncommented : Bool → List FileByte → List FileByte
uncommented inside [] = []
uncommented true (m ∷ ms) = if m.1 == 10 then m ∷ uncommented false ms else uncommented true ms
uncommented false (m ∷ ms) = if m.1 == 35 then uncommented true ms else m ∷ uncommented false ms

-- second, each backslash with the line feed after it becomes one space
unfoldable pub joined : List FileByte → List FileByte
joined [] = []
joined (m ∷ []) = m ∷ []
joined (m ∷ n ∷ ms) = if m.1 == 92 && n.1 == 10 then (m.0, 32) ∷ joined ms else m ∷ joined (n ∷ ms)

-- the text of a file, or of its rest from a line on, after both
abbrev pub text_of : ℕ → List ℕ → List FileByte
text_of line bytes = joined (uncommented false (file_bytes line bytes))

-- third, it is cut at line feeds
abbrev pub lines_of : List FileByte → List (List FileByte)
lines_of text = slice_split (λ m. m.1 == 10) text

-- the bytes of the first line, and the text after its line feed
abbrev pub first_line : List FileByte → List ℕ
first_line [] = []
first_line (m ∷ ms) = if m.1 == 10 then [] else m.1 ∷ first_line ms

abbrev pub after_line : List FileByte → List FileByte
after_line [] = []
after_line (m ∷ ms) = if m.1 == 10 then ms else after_line ms

-- the lines of a text with their numbers, without their ends: a text that a line feed ends has none after it
abbrev pub onto_line : FileByte → List (ℕ × List ℕ) → List (ℕ × List ℕ)
onto_line m [] = (m.0, m.1 ∷ []) ∷ []
onto_line m (line ∷ lines) = (m.0, m.1 ∷ line.1) ∷ lines

unfoldable pub text_lines : List FileByte → List (ℕ × List ℕ)
text_lines [] = []
text_lines (m ∷ ms) = if m.1 == 10 then (m.0, []) ∷ text_lines ms else onto_line m (text_lines ms)

-- a line without the blanks that it begins with
abbrev pub after_blanks : List ℕ → List ℕ
after_blanks [] = []
after_blanks (b ∷ bs) = if is_text_blank b then after_blanks bs else b ∷ bs

-- the lines that have a byte other than blanks, each without the blanks that it begins with
unfoldable pub filled_lines : List (ℕ × List ℕ) → List (ℕ × List ℕ)
filled_lines [] = []
filled_lines (line ∷ lines) = if list_all is_text_blank line.1 then filled_lines lines else (line.0, after_blanks line.1) ∷ filled_lines lines
