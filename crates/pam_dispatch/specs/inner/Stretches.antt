-- For private contracts and proofs alone: the stretches of items on one level, as they are stored.
use Rattle.std.specs.Prelude.{◌≡◌, ℕ, ◌+◌, ◌==◌, Bool, false, if◌then◌else◌, List, [], ◌∷◌}
use Rattle.pam_dispatch.specs.declared.flat_item.FlatItem.{FlatItem}
use Rattle.pam_dispatch.specs.Flat.{level_of}
use Rattle.pam_dispatch.specs.inner.PositionTables.{IsTableFrom}

-- whether the first item is on a level
abbrev pub begins_on : ℕ → List FlatItem → Bool
begins_on level [] = false
begins_on level (item ∷ rest) = level_of item == level

-- the number of items at the front, one directly after another, that are on one level
unfoldable pub stretch_of : List FlatItem → ℕ
stretch_of [] = 0
stretch_of (item ∷ rest) = 1 + (if begins_on (level_of item) rest then stretch_of rest else 0)

abbrev pub IsStretchOf : List FlatItem → ℕ → Type 0
IsStretchOf rest number = number ≡ stretch_of rest

-- that number from each position on, the last position first
abbrev pub IsStretchTable : List FlatItem → List ℕ → Type 0
IsStretchTable program table = IsTableFrom IsStretchOf 0 0 program table
