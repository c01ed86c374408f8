-- For private contracts and proofs alone: the flags in the bits of words.
use Rattle.std.specs.Prelude.{ℕ, ◌/◌, ◌%◌, ◌==◌, Bool, List, get_or}
use Rattle.std.specs.Int.{bit_at}

-- the flag of an index, from the lowest bit of the first word on
unfoldable pub is_set : List ℕ → ℕ → Bool
is_set words index = bit_at (get_or words (index / 64) 0) (index % 64) == 1
