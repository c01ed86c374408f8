-- the cells that are not left are written
use Rattle.std.proofs.Common.{◌≡◌, ◌++◌, List, length, ℕ}
use Rattle.pam_codes.specs.Out.{TookAll}
use Rattle.pam_render.specs.full_text.Cells.{cells, cells_text, first_within}
use Rattle.pam_render.proofs.full_text.cells.put_first_within.Given as goal

abbrev pub invariant-loop-cell : goal.invariant-loop-cell
invariant-loop-cell g l = record {
  written : List ℕ;
  took : TookAll g.W.Write.contents l.initial.out l.out written;
  parts : written ++ cells_text (first_within l.room (cells 0 l.left)) ≡ cells_text (first_within l.fn.room (cells 0 l.bytes));
}

abbrev pub decreases-loop-cell : goal.decreases-loop-cell
decreases-loop-cell g l = length l.left
