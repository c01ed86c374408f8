use Rattle.std.proofs.Common.{◌∙◌, arith, sym}
use Rattle.pam_policy.proofs.RulesProofs.Stepping.{step-false, step-same, step-true, steps-end}
use Rattle.pam_policy.proofs.rules.choosing.comes_before.Goals as goal

pub returns-then-one-other : goal.returns-then-one-other
returns-then-one-other c =
    let end = c.min-index-end.ensures in
    let test = c.loop-index-test.true in
    sym (c.loop-index.invariant
    ∙ step-true c.args.steps.now c.args.others.now c.loop-index.index c.index-steps-index.result c.index-others-index.result (omega (arith, end, test))
    (omega (arith, end, test)) (omega (arith, c.rank-one.ensures, c.rank-other.ensures, c.if-one-other.true)))

pub returns-then-other-one : goal.returns-then-other-one
returns-then-other-one c =
    let end = c.min-index-end.ensures in
    let test = c.loop-index-test.true in
    sym (c.loop-index.invariant
    ∙ step-false c.args.steps.now c.args.others.now c.loop-index.index c.index-steps-index.result c.index-others-index.result (omega (arith, end, test))
    (omega (arith, end, test)) (omega (arith, c.rank-one.ensures, c.rank-other.ensures, c.if-other-one.true)))

pub loop-index-preserved : goal.loop-index-preserved
loop-index-preserved c =
    let end = c.min-index-end.ensures in
    let test = c.loop-index-test.true in
    c.loop-index.invariant
    ∙ step-same c.args.steps.now c.args.others.now c.loop-index.index c.index-steps-index.result c.index-others-index.result (omega (arith, end, test))
    (omega (arith, end, test)) (omega (arith, c.rank-one.ensures, c.rank-other.ensures, c.if-one-other.false, c.if-other-one.false))

pub returns : goal.returns
returns c =
    let end = c.min-index-end.ensures in
    let test = c.loop-index-test.false in
    sym (c.loop-index.invariant ∙ steps-end c.args.steps.now c.args.others.now c.loop-index.index (omega (arith, end, test)))
