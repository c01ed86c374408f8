-- For private contracts and proofs alone: lines that are read in part.
use Rattle.std.specs.Prelude.{◌≡◌, ◌≤◌, ◌<◌, ◌+◌, ◌==◌, ℕ, zero, suc, List, [], ◌∷◌, Bool, true, false, Option, None, Some, if◌then◌else◌}
use Rattle.pam_text.specs.Left.{text_left}
use Rattle.pam_text.specs.Text.{text_lines}
use Rattle.pam_findings.specs.misspelled.Lines.{Lines, line_at, lines_in}
use Rattle.pam_findings.specs.declared.misspelled.reader.Reader.{Reader}

-- the numbers of lines rise from a number on
abbrev pub Rise : ℕ → Lines → Type 0
Rise least [] = Unit {0}
Rise least (line ∷ lines) = (least ≤ line.0) × Rise (line.0 + 1) lines

-- what was read last: before the first line, nothing
abbrev pub last_line : ℕ → List ℕ → Option (List ℕ)
last_line zero line = None
last_line (suc number) line = Some line

-- the line with a number, if it was read last
abbrev pub if_last : ℕ → ℕ → List ℕ → Option (List ℕ)
if_last number last line = if number == last then last_line last line else None

-- of all lines those up to a number are read, the last of them is kept, and these are left
pub record AreRead (all : Lines) (number : ℕ) (line : List ℕ) (left : Lines) : Type 0 where
  pub last : line_at all number ≡ last_line number line
  pub ahead : (later : ℕ) → number < later → line_at all later ≡ line_at left later
  pub rising : Rise (number + 1) left

abbrev pub left_of : Reader → Lines
left_of reader = text_lines (text_left reader.text)

-- the lines of the reader's file
abbrev pub IsReading : Reader → Type 0
IsReading reader = AreRead (lines_in reader.files.now reader.file) reader.number reader.line.items (left_of reader)

-- the next line of those that were left, or none where none is left
abbrev pub IsNext : Bool → Reader → Reader → Type 0
IsNext true old new = left_of old ≡ (new.number, new.line.items) ∷ left_of new
IsNext false old new = (left_of old ≡ []) × (left_of new ≡ []) × (new.number ≡ old.number) × (new.line ≡ old.line)
