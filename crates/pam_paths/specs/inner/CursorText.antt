-- For private contracts and proofs alone: the text of a cursor.
use Rattle.std.specs.Prelude.{◌≡◌, ◌≢◌, ℕ, ◌<◌, List, MatchOption, Option, decimal}

-- the code whose number has these digits; None if there is no such code
abbrev pub IsCodeOf : List ℕ → Option ℕ → Type 0
IsCodeOf digits result =
    MatchOption result ((code : ℕ) → code < 31 → decimal code ≢ digits) (λ code. (code < 31) × (decimal code ≡ digits))
