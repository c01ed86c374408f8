-- For private contracts and proofs alone: the end of a path on which the answers no longer matter.
use Rattle.std.specs.Prelude.{ℕ, ◌-◌, ◌≤◌, List, drop, length}
use Rattle.pam_paths.specs.Paths.{StepValue}
use Rattle.pam_paths.specs.Tail.{IsTail}

-- the last steps of a path, `count` of them, are such steps
abbrev pub EndsInTail : ℕ → List StepValue → Type 0
EndsInTail count steps = (count ≤ length steps) × IsTail (drop (length steps - count) steps)
