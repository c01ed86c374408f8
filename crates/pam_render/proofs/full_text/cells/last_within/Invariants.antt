-- the cells that fit are among those that are left
use Rattle.std.proofs.Common.{◌≡◌, ◌≤◌, length}
use Rattle.pam_render.specs.full_text.Cells.{cells, last_within, width}
use Rattle.pam_render.proofs.full_text.cells.last_within.Given as goal

abbrev pub invariant-loop-wide : goal.invariant-loop-wide
invariant-loop-wide l = record {
  counted : l.wide ≡ width (cells 0 l.left);
  kept : last_within l.room (cells 0 l.left) ≡ last_within l.room (cells 0 l.bytes);
  few : length l.left ≤ length l.bytes;
}

abbrev pub decreases-loop-wide : goal.decreases-loop-wide
decreases-loop-wide l = length l.left
