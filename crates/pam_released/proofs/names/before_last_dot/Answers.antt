use Rattle.std.proofs.Common.{sym}
use Rattle.pam_released.proofs.Scanning.{found_dot, no_dot_at_all}
use Rattle.pam_released.proofs.names.before_last_dot.Goals as goal

pub returns-then-last-eq46 : goal.returns-then-last-eq46
returns-then-last-eq46 c =
    sym (found_dot c.args.name.now c.loop-last.front.now c.loop-last.invariant.0 c.in-Some.before.now c.in-Some.last.now
    c.loop-last.invariant.1 c.loop-last.invariant.2 c.in-Some.ensures.cases.0 c.if-last-eq46.true)

pub returns : goal.returns
returns c = sym (no_dot_at_all c.args.name.now c.loop-last.front.now c.loop-last.invariant.0 c.loop-last.invariant.1 c.loop-last.invariant.2
    c.in_default.ensures.cases)
