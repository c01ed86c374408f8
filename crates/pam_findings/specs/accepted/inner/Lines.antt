-- For private contracts and proofs alone: the lines of an accept file.
use Rattle.std.specs.Prelude.{◌≡◌, ℕ, List, ◌++◌, Result, Ok, Err, MatchResult}
use Rattle.pam_findings.specs.accepted.Error.{TellsFault}
use Rattle.pam_findings.specs.accepted.Words.{words_of}
use Rattle.pam_findings.specs.declared.accepted.error.AcceptError.{AcceptError}
use Rattle.pam_findings.specs.accepted.Lines.{Accepted, onto_lines}

-- lines that are read, and those that are left
abbrev pub before_lines : List Accepted → Result (List Accepted) AcceptError → Result (List Accepted) AcceptError
before_lines lines (Ok others) = Ok (lines ++ others)
before_lines lines (Err e) = Err e

-- a line is read, or its fault stands before those of all others
abbrev pub AddsLine : ℕ → List ℕ → List Accepted → List Accepted → Result (Unit {0}) AcceptError → Type 0
AddsLine number line old new result =
    (others : Result (List Accepted) AcceptError) → MatchResult result
    (λ _. before_lines new others ≡ before_lines old (onto_lines number (words_of line) others))
    (λ e. TellsFault e (before_lines old (onto_lines number (words_of line) others)))
