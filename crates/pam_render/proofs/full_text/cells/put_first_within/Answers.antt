use Rattle.std.proofs.Common.{◌-◌, refl}
use Rattle.pam_codes.proofs.Writing.{all-is, all-then, err-front, front-is, front-longer, front-then}
use Rattle.pam_render.specs.full_text.Cells.{cells, cells_text, first_within}
use Rattle.pam_render.proofs.FullTextProofs.CellSteps.{first-full, first-none, no-cells, text-done, text-more}
use Rattle.pam_render.proofs.full_text.cells.put_first_within.Goals as goal

pub returns-then-columns-room : goal.returns-then-columns-room
returns-then-columns-room g c =
    let so_far = c.loop-cell.invariant in
    all-is so_far.took
    (text-done so_far.written _ _
    (first-full c.loop-cell.room _ _ _ c.columns-columns.result c.in-Some.ensures.value c.columns-columns.ensures.value c.if-columns-room.true)
    so_far.parts)

pub returns-in_err-put_cell : goal.returns-in_err-put_cell
returns-in_err-put_cell g c =
    let so_far = c.loop-cell.invariant in
    let cols = c.columns-columns.result in
    err-front _ c.from_residual.ensures.0
    (front-is
    (front-longer (cells_text (first_within (c.loop-cell.room - cols) (cells 0 c.in-Some.after.now))) (front-then so_far.took c.in_err-put_cell.ensures))
    (text-more c.loop-cell.room (c.loop-cell.room - cols) so_far.written _ _ _ _ cols c.in-Some.ensures.value c.columns-columns.ensures.value
    c.if-columns-room.false refl so_far.parts))

pub loop-cell-preserved : goal.loop-cell-preserved
loop-cell-preserved g c =
    let so_far = c.loop-cell.invariant in
    let cols = c.columns-columns.result in
    record {
      written = _;
      took = all-then so_far.took c.in_ok-put_cell.ensures;
      parts = text-more c.loop-cell.room (c.loop-cell.room - cols) so_far.written _ _ _ _ cols c.in-Some.ensures.value
          c.columns-columns.ensures.value c.if-columns-room.false refl so_far.parts;
    }

pub returns : goal.returns
returns g c =
    let so_far = c.loop-cell.invariant in
    all-is so_far.took
    (text-done so_far.written _ _ (first-none c.loop-cell.room _ (no-cells c.loop-cell.left.now c.in_default.ensures.value)) so_far.parts)
