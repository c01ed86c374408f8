-- For private contracts and proofs alone: what is stored for each position of a list.
use Rattle.std.specs.Prelude.{◌≡◌, ℕ, ◌+◌, ◌-◌, ◌≤◌, List, drop, length, slice_index_or}

-- the table has an entry for each position from `position` on, the last position first, which is the end;
-- each entry fits the items that are left from its position on
pub record IsTableFrom {X Y : Type 0} (Fits : List X → Y → Type 0) (none : Y) (position : ℕ) (items : List X) (table : List Y) : Type 0 where
  pub long : length table ≡ length items - position + 1
  pub each : (left : ℕ) → left ≤ length items - position → Fits (drop (length items - left) items) (slice_index_or table left none)
