-- For private contracts and proofs alone: what is left of a text that is cut into parts.
use Rattle.std.specs.Prelude.{ℕ, List, [], Option}
use Rattle.std.specs.Option.{option_map_or}
use Rattle.pam_facts.specs.arguments.Cuts.{parts_of}

-- the parts that are left, of which there are none after the last
abbrev pub parts_left : ℕ → Option (List ℕ) → List (List ℕ)
parts_left separator rest = option_map_or (parts_of separator) rest []
