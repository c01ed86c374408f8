use Rattle.std.proofs.Common.{◌<◌, ◌∙◌, arith, length, sym}
use Rattle.std.proofs.lemmas.List.{get_or_default, get_or_past}
use Rattle.pam_compare.specs.inner.Naming.{by_code}
use Rattle.pam_compare.proofs.Writing.{answer-end, answer-here, answer-later, drop-past}
use Rattle.pam_compare.proofs.witness.answer_on.Goals as goal

pub returns-then-way-name : goal.returns-then-way-name
returns-then-way-name c =
    let within : c.loop-index.index < length c.args.trail.now = omega arith in
    sym (c.loop-index.invariant
    ∙ answer-here (by_code c.args.usual.now) c.args.trail.now c.loop-index.index c.index-trail-index.result c.args.name within c.index-trail-index.is
    c.if-way-name.true)

pub loop-index-preserved : goal.loop-index-preserved
loop-index-preserved c =
    let within : c.loop-index.index < length c.args.trail.now = omega arith in
    c.loop-index.invariant
    ∙ answer-later (by_code c.args.usual.now) c.args.trail.now c.loop-index.index c.index-trail-index.result c.args.name within c.index-trail-index.is
    c.if-way-name.false

pub returns-then-name-usual : goal.returns-then-name-usual
returns-then-name-usual c =
    c.index-usual-name.is ∙ get_or_default c.args.usual.now c.args.name c.index-usual-name.result 0 c.if-name-usual.true
    ∙ sym (c.loop-index.invariant
    ∙ answer-end (by_code c.args.usual.now) c.args.trail.now c.loop-index.index c.args.name (drop-past c.args.trail.now c.loop-index.index (omega arith)))

pub returns-else-name-usual : goal.returns-else-name-usual
returns-else-name-usual c =
    sym (c.loop-index.invariant
    ∙ answer-end (by_code c.args.usual.now) c.args.trail.now c.loop-index.index c.args.name (drop-past c.args.trail.now c.loop-index.index (omega arith))
    ∙ get_or_past c.args.usual.now c.args.name 0 c.if-name-usual.false)
