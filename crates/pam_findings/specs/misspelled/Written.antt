-- A word as it is written at its spot: the bytes of the file that stand there.
use Rattle.std.specs.Prelude.{◌≡◌, ◌≤◌, ◌-◌, ◌⊎◌, ◌==◌, ◌&&◌, ◌||◌, ℕ, Bool, false, IsTrue, List, [], ◌∷◌, Option, Some, drop, length, slice_get, take}
use Rattle.std.specs.List.{list_any}
use Rattle.std.specs.Option.{option_and_then, option_map}
use Rattle.pam_conf.specs.Files.{Folder}
use Rattle.pam_conf.specs.declared.rule.Form.{Form}
use Rattle.pam_findings.specs.declared.host.problem.Place.{Place}
use Rattle.pam_findings.specs.declared.host.report.Finding.{Finding}
use Rattle.pam_findings.specs.declared.misspelled.spot.Spot.{Spot}
use Rattle.pam_findings.specs.declared.misspelled.word.Wrong.{Wrong}
use Rattle.pam_findings.specs.misspelled.About.{piece_of}
use Rattle.pam_findings.specs.misspelled.Findings.{wrong_at}
use Rattle.pam_findings.specs.misspelled.Lines.{line_of}
use Rattle.pam_findings.specs.misspelled.Spots.{from_line, is_feed}

-- a line of the file ends here, maybe behind a comment
abbrev pub ends_line : List ℕ → Bool
ends_line [] = false
ends_line (b ∷ bs) = is_feed b || (b == 35 && list_any is_feed bs)

-- a backslash that continues its line in the next one
abbrev pub continues : List ℕ → Bool
continues [] = false
continues (b ∷ bs) = b == 92 && ends_line bs

-- the bytes of a file from the line and the column of a spot on
abbrev pub from_spot : List ℕ → Spot → List ℕ
from_spot bytes spot = drop (spot.column - 1) (from_line spot.line bytes)

-- A WORD IS WRITTEN AT A SPOT of a file: the bytes there, as many as the spot has, are the first of the word. They are all of it, but
-- where the word goes on with the blank that stands for a backslash and the line feed after it
pub record IsWritten (bytes word : List ℕ) (spot : Spot) : Type 0 where
  pub within : spot.len ≤ length word
  pub there : take spot.len (from_spot bytes spot) ≡ take spot.len word
  pub whole : (spot.len ≡ length word) ⊎ ((slice_get word spot.len ≡ Some 32) × IsTrue (continues (drop spot.len (from_spot bytes spot))))

-- the word that a problem is about as it is written in its line: a kind with its dash, a target with its folder, a word with its brackets
abbrev pub written_in : Form → List ℕ → Wrong → Option (List ℕ)
written_in form line why = option_map (λ piece. piece.1) (piece_of form why line)

-- THE WORD that a finding is about, as it is written
abbrev pub written_at : Folder → List Bool → Place × Finding → Option (List ℕ)
written_at files outside entry =
    option_and_then (λ why. option_and_then (λ line. written_in files.form line why) (line_of files entry.0.file entry.0.line)) (wrong_at outside entry)
