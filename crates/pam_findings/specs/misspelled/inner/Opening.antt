-- For private contracts and proofs alone: first bytes of a line that are closed.
use Rattle.std.specs.Prelude.{◌≡◌, ◌≤◌, ◌+◌, ℕ, List, Some, drop, length, take}
use Rattle.pam_findings.specs.misspelled.Open.{is_closed, open_piece}

-- a longer start of the line is closed exactly if what it has after this many bytes is
pub record Skips (len : ℕ) (line : List ℕ) : Type 0 where
  pub within : len ≤ length line
  pub after : (more : ℕ) → is_closed (take (len + more) line) ≡ is_closed (take more (drop len line))

-- the bracket with which a line begins stays open
abbrev pub StaysOpen : List ℕ → Type 0
StaysOpen line = open_piece line ≡ Some (0, line)
