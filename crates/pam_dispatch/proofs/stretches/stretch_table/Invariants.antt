-- the lengths from each position so far on
use Rattle.std.proofs.Common.{◌≤◌, drop, length}
use Rattle.pam_dispatch.specs.inner.PositionTables.{IsTableFrom}
use Rattle.pam_dispatch.specs.inner.Stretches.{IsStretchOf}
use Rattle.pam_dispatch.proofs.Skipping.{IsFirstLevel}
use Rattle.pam_dispatch.proofs.stretches.stretch_table.Given as goal

abbrev pub invariant-loop-position : goal.invariant-loop-position
invariant-loop-position l = record {
  within : l.position ≤ length l.flat_items;
  stored : IsTableFrom IsStretchOf 0 l.position l.flat_items l.table.items;
  last : IsStretchOf (drop l.position l.flat_items) l.length;
  level : IsFirstLevel l.level (drop l.position l.flat_items);
}

abbrev pub decreases-loop-position : goal.decreases-loop-position
decreases-loop-position l = l.position
