use Rattle.std.proofs.Common.{◌∙◌, arith, sym}
use Rattle.pam_render.proofs.FullTextProofs.CellSteps.{last-all, last-less, last-none, no-cells, width-step}
use Rattle.pam_render.proofs.full_text.cells.last_within.Goals as goal

pub returns-in_default-clause-value : goal.returns-in_default-clause-value
returns-in_default-clause-value c =
    let none = no-cells c.loop-wide.left.now c.in_default.ensures.value in
    none ∙ sym (last-none c.args.room _ none) ∙ c.loop-wide.invariant.kept

pub overflow_sub-wide : goal.overflow_sub-wide
overflow_sub-wide c =
    let step = width-step _ _ _ c.columns-wide.result c.in-Some.ensures.value c.columns-wide.ensures.value in
    omega (arith, step, c.loop-wide.invariant.counted)

pub loop-wide-preserved : goal.loop-wide-preserved
loop-wide-preserved c =
    let before = c.loop-wide.invariant in
    let step = width-step _ _ _ c.columns-wide.result c.in-Some.ensures.value c.columns-wide.ensures.value in
    record {
      counted = omega (arith, step, before.counted);
      kept = last-less c.args.room _ _ _ c.in-Some.ensures.value (omega (arith, before.counted, c.loop-wide-test.true)) ∙ before.kept;
      few = omega (arith, before.few, c.in-Some.ensures.shorter);
    }

pub returns-clause-value : goal.returns-clause-value
returns-clause-value c =
    let before = c.loop-wide.invariant in
    sym (last-all c.args.room _ (omega (arith, before.counted, c.loop-wide-test.false))) ∙ before.kept
