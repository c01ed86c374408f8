-- Sets of bytes, and texts that are cut at them.
use Rattle.std.specs.Prelude.{ℕ, ◌+◌, ◌==◌, Bool, List, take, drop, position, Option}
use Rattle.std.specs.List.{list_any}
use Rattle.std.specs.Option.{option_map}

-- the bytes are a set
unfoldable pub is_among : List ℕ → ℕ → Bool
is_among bytes b = list_any (λ s. s == b) bytes

-- the bytes before and after the first separator
abbrev pub cut_at : (ℕ → Bool) → List ℕ → Option (List ℕ × List ℕ)
cut_at is_separator text = option_map (λ i. (take i text, drop (i + 1) text)) (position is_separator text)
