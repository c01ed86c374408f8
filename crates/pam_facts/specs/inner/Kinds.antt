-- For private contracts and proofs alone: the kinds that a word names, as `auth,account`.
use Rattle.std.specs.Prelude.{ℕ, List, [], Option}
use Rattle.std.specs.Option.{option_map_or}
use Rattle.pam_facts.specs.Kinds.{names_in}

-- the names that are left, of which there are none after the last
abbrev pub names_left : Option (List ℕ) → List (List ℕ)
names_left rest = option_map_or names_in rest []
