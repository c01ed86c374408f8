-- the columns of the cells that are not left are counted
use Rattle.std.proofs.Common.{◌≡◌, ◌+◌, ◌*◌, ◌≤◌, length}
use Rattle.pam_render.specs.full_text.Cells.{cells, width}
use Rattle.pam_render.proofs.full_text.cells.width.Given as goal

abbrev pub invariant-loop-cell : goal.invariant-loop-cell
invariant-loop-cell l = record {
  counted : l.width + width (cells 0 l.left) ≡ width (cells 0 l.bytes);
  few : l.width + 4 * length l.left ≤ 4 * length l.bytes;
}

abbrev pub decreases-loop-cell : goal.decreases-loop-cell
decreases-loop-cell l = length l.left
