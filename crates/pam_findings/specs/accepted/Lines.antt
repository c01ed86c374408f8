-- The lines of an accept file.
use Rattle.std.specs.Prelude.{ℕ, ◌+◌, ◌==◌, List, [], ◌∷◌, Result, Ok, Err, if◌then◌else◌}
use Rattle.std.specs.List.{join_with_byte, slice_split}
use Rattle.std.specs.Option.{option_map_or}
use Rattle.pam_text.specs.Source.{source_fault}
use Rattle.pam_findings.specs.accepted.Keys.{is_finding}
use Rattle.pam_findings.specs.accepted.Words.{words_of}
use Rattle.pam_findings.specs.declared.accepted.error.AcceptError.{AcceptError}
use Rattle.pam_findings.specs.declared.accepted.error.AcceptError.TheVariants.{BadAccept, Source}

-- a line that accepts a finding: its number, and the finding's key
abbrev pub Accepted : Type 0
Accepted = ℕ × List ℕ

-- a line before the others that accept findings
abbrev pub onto_accepted : Accepted → Result (List Accepted) AcceptError → Result (List Accepted) AcceptError
onto_accepted line (Ok lines) = Ok (line ∷ lines)
onto_accepted line (Err e) = Err e

-- a line of these words before the others: a line without words is skipped, and its fault comes before theirs
abbrev pub onto_lines : ℕ → List (List ℕ) → Result (List Accepted) AcceptError → Result (List Accepted) AcceptError
onto_lines number [] others = others
onto_lines number words others =
    if is_finding words then onto_accepted (number, join_with_byte 32 words) others else Err (BadAccept number)

-- the lines that accept findings, numbered from this one, or the first fault
unfoldable pub lines_from : ℕ → List (List ℕ) → Result (List Accepted) AcceptError
lines_from number [] = Ok []
lines_from number (line ∷ lines) = onto_lines number (words_of line) (lines_from (number + 1) lines)

abbrev pub physical_lines : List ℕ → List (List ℕ)
physical_lines bytes = slice_split (λ b. b == 10) bytes

-- THE LINES of an accept file that accept findings, or its first fault
unfoldable pub accepted_lines : List ℕ → Result (List Accepted) AcceptError
accepted_lines bytes =
    option_map_or (λ fault. Err (Source fault)) (source_fault bytes) (lines_from 1 (physical_lines bytes))
