-- The differences at lines as tests of all lines together.
use Rattle.std.specs.Prelude.{ℕ, ◌+◌, ◌||◌, nat_lt, Bool, false, List, [], ◌∷◌, length}
use Rattle.pam_conf.specs.Words.{State}
use Rattle.pam_released.specs.Bracket.{state_after}
use Rattle.pam_released.specs.Findings.{drops_blank, goes_on_over, has_backslash_blank, has_backslash_comment, has_return, used_after}
use Rattle.pam_released.specs.Lines.{goes_on}

-- one of L1 to L5 is at some line: L5 is at the last one, if it goes on
unfoldable pub is_line_read_otherwise : List (List ℕ) → Bool
is_line_read_otherwise [] = false
is_line_read_otherwise (line ∷ []) = has_return line || has_backslash_blank line || has_backslash_comment line || goes_on line
is_line_read_otherwise (line ∷ next ∷ lines) =
    has_return line || has_backslash_blank line || has_backslash_comment line || goes_on_over line next || is_line_read_otherwise (next ∷ lines)

-- the lines of some logical line have together more than 1,023 bytes, line feeds included
unfoldable pub is_too_long : ℕ → List (List ℕ) → Bool
is_too_long used [] = false
is_too_long used (line ∷ lines) = nat_lt 1023 (used + length line + 1) || is_too_long (used_after used line) lines

-- L9 is at some line
unfoldable pub has_dropped_blank : State → List (List ℕ) → Bool
has_dropped_blank state [] = false
has_dropped_blank state (line ∷ lines) = drops_blank state line || has_dropped_blank (state_after state line) lines
