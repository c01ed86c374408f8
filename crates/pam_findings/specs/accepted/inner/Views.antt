-- For private contracts and proofs alone: lines without their layout in memory, and their keys.
use Rattle.std.specs.Prelude.{◌≡◌, ℕ, List, map}
use Rattle.std.specs.List.{list_any}
use Rattle.std.specs.Str.{bytes_eq}
use Rattle.pam_findings.specs.declared.accepted.lines.AcceptLine.{AcceptLine}
use Rattle.pam_findings.specs.accepted.Views.{line_view}

-- keys are those of the lines
abbrev pub HasKeys : List (List ℕ) → List AcceptLine → Type 0
HasKeys keys lines = (key : List ℕ) → list_any (bytes_eq key) keys ≡ list_any (λ line. bytes_eq key line.1) (map line_view lines)
