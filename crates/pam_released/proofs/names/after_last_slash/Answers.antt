use Rattle.std.proofs.Common.{◌∙◌, sym}
use Rattle.pam_released.proofs.Scanning.{found_slash, no_slash_at_all}
use Rattle.pam_released.proofs.names.after_last_slash.Goals as goal

pub returns-then-last-eq47 : goal.returns-then-last-eq47
returns-then-last-eq47 c =
    c.split_at.ensures.back ∙ sym (found_slash c.args.path.now c.loop-last.front.now c.loop-last.invariant.0 c.in-Some.before.now c.in-Some.last.now
    c.loop-last.invariant.1 c.loop-last.invariant.2 c.in-Some.ensures.cases.0 c.if-last-eq47.true)

pub returns : goal.returns
returns c = sym (no_slash_at_all c.args.path.now c.loop-last.front.now c.loop-last.invariant.0 c.loop-last.invariant.1 c.loop-last.invariant.2
    c.in_default.ensures.cases)
