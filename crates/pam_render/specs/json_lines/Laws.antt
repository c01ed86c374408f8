-- What holds of each string.
use Rattle.std.specs.Prelude.{◌≡◌, ℕ, List, nat_le, true}
use Rattle.std.specs.List.{list_all}
use Rattle.json.specs.Print.{quoted}

-- no byte of a string is a control byte as JSON counts them, below 32, so none ends a line
abbrev pub NoControlByte : Type 0
NoControlByte = (text : List ℕ) → list_all (nat_le 32) (quoted text) ≡ true
