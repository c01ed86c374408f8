use Rattle.std.proofs.Common.{arith}
use Rattle.pam_render.proofs.FullTextProofs.CellSteps.{no-cells, width-none, width-step}
use Rattle.pam_render.proofs.full_text.cells.width.Goals as goal

pub loop-cell-preserved : goal.loop-cell-preserved
loop-cell-preserved c =
    let kept = c.loop-cell.invariant in
    let step = width-step _ _ _ c.columns-width.result c.in-Some.ensures.value c.columns-width.ensures.value in
    record {
      counted = omega (arith, step, kept.counted);
      few = omega (arith, kept.few, c.columns-width.ensures.bound, c.in-Some.ensures.shorter);
    }

pub returns-clause-value : goal.returns-clause-value
returns-clause-value c =
    let none = width-none _ (no-cells c.loop-cell.left.now c.in_default.ensures.value) in omega (arith, c.loop-cell.invariant.counted, none)
