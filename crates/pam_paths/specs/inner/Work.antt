-- For private contracts and proofs alone: a count of steps that stops at the largest number of its type.
use Rattle.std.specs.Prelude.{ℕ, ◌-◌, ◌≤◌, ◌^◌}

-- a count has not fallen, and its type still holds it
abbrev pub CountsOn : ℕ → ℕ → Type 0
CountsOn old new = old ≤ 2 ^ 64 - 1 → (old ≤ new) × (new ≤ 2 ^ 64 - 1)
