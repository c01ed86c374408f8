-- the levels from each position so far on
use Rattle.std.proofs.Common.{◌≤◌, [], drop, length}
use Rattle.pam_dispatch.specs.inner.PositionTables.{IsTableFrom}
use Rattle.pam_dispatch.specs.inner.ReadLevels.{AreReadLevels}
use Rattle.pam_dispatch.proofs.read_levels.read_table.Given as goal

abbrev pub invariant-loop-position : goal.invariant-loop-position
invariant-loop-position l = record {
  within : l.position ≤ length l.flat_items;
  stored : IsTableFrom AreReadLevels [] l.position l.flat_items l.table.items;
  last : AreReadLevels (drop l.position l.flat_items) l.levels;
}

abbrev pub decreases-loop-position : goal.decreases-loop-position
decreases-loop-position l = l.position
