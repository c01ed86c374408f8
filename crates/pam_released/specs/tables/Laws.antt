-- Laws of the findings of tables: each is at a line at which its row shows, and they are in order.
use Rattle.std.specs.Prelude.{◌≡◌, ◌↔◌, ◌⊎◌, ◌<◌, ℕ, Bool, true, List}
use Rattle.std.specs.List.{AllPairs}
use Rattle.pam_text.specs.Text.{text_lines, text_of}
use Rattle.pam_tables.specs.Lines.{lines_from}
use Rattle.pam_tables.specs.Options.{Options}
use Rattle.pam_released.specs.FindingLaws.{Member}
use Rattle.pam_released.specs.tables.Access.{access_findings, access_tests, last_line}
use Rattle.pam_released.specs.tables.Times.{time_findings, time_tests, unfinished_line}
use Rattle.pam_released.specs.declared.tables.difference.TableDifference.{TableDifference}
use Rattle.pam_released.specs.declared.tables.difference.TableDifference.TheVariants.{ZeroMask, AccessNoLineFeed, LeadingBlank, BlankInToken, EmptySeparator}
use Rattle.pam_released.specs.declared.tables.difference.TableDifference.TheVariants.{MaskDigits, Loopback, TimeNoLineFeed, OddBytes, LongField, FinishMinute}
use Rattle.pam_released.specs.declared.tables.finding.TableFinding.{TableFinding}

-- WHERE EACH IS

-- a finding at one of some lines: the line has its number, and the test of its difference holds there
pub record IsAtLine (tests : ℕ → List ℕ → List (Bool × TableDifference)) (lines : List (ℕ × List ℕ)) (finding : TableFinding) : Type 0 where
  pub text : List ℕ
  pub line : Member (finding.line, text) lines
  pub shows : Member (true, finding.difference) (tests finding.line text)

-- the findings of a table are exactly these
abbrev pub AccessFindingsAreTheRows : Type 0
AccessFindingsAreTheRows = (options : Options) (bytes : List ℕ) (finding : TableFinding) →
    Member finding (access_findings options bytes) ↔ IsAtLine (access_tests options (last_line bytes)) (lines_from 1 bytes) finding

abbrev pub TimeFindingsAreTheRows : Type 0
TimeFindingsAreTheRows = (bytes : List ℕ) (finding : TableFinding) →
    Member finding (time_findings bytes) ↔ IsAtLine (time_tests (unfinished_line bytes)) (text_lines (text_of 1 bytes)) finding

-- IN WHICH ORDER

-- A1 to A7, and T1 to T4 after them
unfoldable pub place_of : TableDifference → ℕ
place_of ZeroMask = 1
place_of AccessNoLineFeed = 2
place_of LeadingBlank = 3
place_of BlankInToken = 4
place_of EmptySeparator = 5
place_of MaskDigits = 6
place_of Loopback = 7
place_of TimeNoLineFeed = 8
place_of OddBytes = 9
place_of LongField = 10
place_of FinishMinute = 11

-- by line, and then by number
abbrev pub IsBefore : TableFinding → TableFinding → Type 0
IsBefore first second =
    (first.line < second.line) ⊎ ((first.line ≡ second.line) × (place_of first.difference < place_of second.difference))

-- each comes before those after it, so none is there twice
abbrev pub AccessFindingsAreInOrder : Type 0
AccessFindingsAreInOrder = (options : Options) (bytes : List ℕ) → AllPairs IsBefore (access_findings options bytes)

abbrev pub TimeFindingsAreInOrder : Type 0
TimeFindingsAreInOrder = (bytes : List ℕ) → AllPairs IsBefore (time_findings bytes)
