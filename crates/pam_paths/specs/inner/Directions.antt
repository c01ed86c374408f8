-- For private contracts and proofs alone: listings and codes in either direction.
use Rattle.std.specs.Prelude.{ℕ, ◌<◌, ◌≤◌, List}
use Rattle.pam_paths.specs.declared.direction.Direction.{Direction}
use Rattle.pam_paths.specs.declared.direction.Direction.TheVariants.{Forward, Backward}
use Rattle.pam_dispatch.specs.Runs.{Assignment}
use Rattle.pam_paths.specs.Listing.{Allowance, IsListingAfter, IsListingBefore}
use Rattle.pam_paths.specs.Paths.{PathValue}

-- the part of a listing after a key, or before it
abbrev pub IsListingFrom : Direction → Allowance → ℕ → (Assignment → PathValue) → List ℕ → List PathValue → Type 0
IsListingFrom Forward allows n path_by k paths = IsListingAfter allows n path_by k paths
IsListingFrom Backward allows n path_by k paths = IsListingBefore allows n path_by k paths

-- the bound with every code ahead, and the bound with the codes after a code ahead
abbrev pub outset : Direction → ℕ
outset Forward = 0
outset Backward = 31

-- a code is ahead of a bound
abbrev pub IsAhead : Direction → ℕ → ℕ → Type 0
IsAhead Forward bound code = bound ≤ code
IsAhead Backward bound code = code < bound

-- a code is met before another
abbrev pub IsNearer : Direction → ℕ → ℕ → Type 0
IsNearer Forward code other = code < other
IsNearer Backward code other = other < code
