use Rattle.std.proofs.Common.{arith, lit<, sym}
use Rattle.pam_codes.proofs.Dividing.{ArePartsBefore-none, ArePartsBefore-more, IsParts-all, few_parts}
use Rattle.pam_codes.proofs.control.Control.parts.Goals as goal

pub loop-code-init : goal.loop-code-init
loop-code-init c = ArePartsBefore-none _ _ _ c.all-remaining.ensures c.new-parts.ensures

pub push-requires : goal.push-requires
push-requires c =
    let few = few_parts c.args.self.now c.loop-code.remaining c.loop-code.parts.items c.loop-code.invariant c.in-Some.code c.action-action.result
    c.action-action.ensures.control.one_each (sym c.in-Some.ensures.first) c.action-action.ensures.of_code in
    (lit< tt, few)

pub loop-code-smaller : goal.loop-code-smaller
loop-code-smaller c =
    let few = few_parts c.args.self.now c.loop-code.remaining c.loop-code.parts.items c.loop-code.invariant c.in-Some.code c.action-action.result
    c.action-action.ensures.control.one_each (sym c.in-Some.ensures.first) c.action-action.ensures.of_code in
    omega (arith, few, c.push.ensures.len)

pub loop-code-preserved : goal.loop-code-preserved
loop-code-preserved c = rw c.push.ensures.items
    (ArePartsBefore-more c.args.self.now c.loop-code.remaining c.loop-code.parts.items c.loop-code.invariant c.in-Some.code c.action-action.result
    c.action-action.ensures.control.one_each (sym c.in-Some.ensures.first) c.action-action.ensures.of_code
    c.codes_with-codes.result c.without-remaining.result c.codes_with-codes.ensures c.without-remaining.ensures)

pub returns : goal.returns
returns c = IsParts-all _ _ _ c.loop-code.invariant (sym c.in_default.ensures.first)
