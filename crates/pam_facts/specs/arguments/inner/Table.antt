-- For private contracts and proofs alone: an index of lines by their names.
use Rattle.std.specs.Prelude.{◌≡◌, ℕ, List}
use Rattle.std.specs.Borrow.{Bor}
use Rattle.std.specs.Map.{lookup}
use Rattle.std.specs.Option.{option_map}
use Rattle.std.specs.Str.{bytes_eq}
use Rattle.pam_facts.specs.arguments.Table.{line_named}

-- at each name is its line
abbrev pub HasLines : List (Bor (List ℕ) × Bor (List ℕ)) → List (List ℕ × List ℕ) → Type 0
HasLines index lines = (name : List ℕ) → option_map (λ t. t.now) (lookup (λ k. bytes_eq name k.now) index) ≡ line_named name lines
