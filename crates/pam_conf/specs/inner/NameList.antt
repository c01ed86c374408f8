-- For private contracts and proofs alone: the names of a list, each once.
use Rattle.std.specs.Prelude.{◌≡◌, ℕ, List}
use Rattle.std.specs.List.{list_any}
use Rattle.std.specs.Str.{bytes_eq}

-- a name is among the known ones if and only if the list has it
abbrev pub HasNames : List (List ℕ) → List (List ℕ) → Type 0
HasNames known names = (name : List ℕ) → list_any (bytes_eq name) known ≡ list_any (bytes_eq name) names
