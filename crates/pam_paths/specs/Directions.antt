-- Listings and codes in either direction.
use Rattle.std.specs.Prelude.{ℕ, ◌+◌, List, reverse}
use Rattle.pam_paths.specs.declared.direction.Direction.{Direction}
use Rattle.pam_paths.specs.declared.direction.Direction.TheVariants.{Forward, Backward}
use Rattle.pam_paths.specs.Paths.{PathValue}

-- paths in the order of a direction
abbrev pub ordered : Direction → List PathValue → List PathValue
ordered Forward paths = paths
ordered Backward paths = reverse paths

abbrev pub past : Direction → ℕ → ℕ
past Forward code = code + 1
past Backward code = code
