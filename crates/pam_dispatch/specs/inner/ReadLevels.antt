-- For private contracts and proofs alone: the levels of the lists whose entry states a reset can still read, as they are stored.
use Rattle.std.specs.Prelude.{◌≡◌, ℕ, ◌<◌, Bool, false, List, [], length, slice_index_or}
use Rattle.pam_dispatch.specs.declared.entered.TheConstants.{LISTS}
use Rattle.pam_dispatch.specs.declared.flat_item.FlatItem.{FlatItem}
use Rattle.pam_dispatch.specs.Representatives.{is_read}
use Rattle.pam_dispatch.specs.inner.PositionTables.{IsTableFrom}

-- of each level, whether it is read by the items to come
pub record AreReadLevels (rest : List FlatItem) (levels : List Bool) : Type 0 where
  pub long : length levels ≡ LISTS
  pub each : (level : ℕ) → level < LISTS → slice_index_or levels level false ≡ is_read level rest

-- the levels from each position on, the last position first
abbrev pub IsReadTable : List FlatItem → List (List Bool) → Type 0
IsReadTable program table = IsTableFrom AreReadLevels [] 0 program table
