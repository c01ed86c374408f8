-- For private contracts and proofs alone: groups of users.
use Rattle.std.specs.Prelude.{ℕ, Bool, false, List}
use Rattle.std.specs.List.{list_any, slice_get}
use Rattle.std.specs.Option.{option_map_or}
use Rattle.std.specs.Str.{bytes_eq}
use Rattle.pam_tables.specs.Groups.{Group}

-- the group at an index lists the user
abbrev pub lists_at : List Group → List ℕ → ℕ → Bool
lists_at groups user index = option_map_or (λ g. list_any (λ m. bytes_eq m user) g.1) (slice_get groups index) false
