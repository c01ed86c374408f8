use Rattle.std.proofs.Common.{◌∙◌}
use Rattle.pam_tables.proofs.TimesProofs.PatternSteps.{at_difference, at_end, at_same, at_star, name_ended}
use Rattle.pam_tables.proofs.times.pattern.is_match.Goals as goal

pub returns-then-first-eq42 : goal.returns-then-first-eq42
returns-then-first-eq42 c =
    c.ends_with.ensures ∙ at_star c.loop-first.left.now c.loop-first.rest.now _ c.loop-first.invariant _ _ c.in-Some.ensures.cases.0 c.if-first-eq42.true

pub returns-in_default-split_first : goal.returns-in_default-split_first
returns-in_default-split_first c =
    at_end c.loop-first.left.now c.loop-first.rest.now _ c.loop-first.invariant _ _ c.in-Some.ensures.cases.0 c.if-first-eq42.false
    c.in_default-split_first.ensures.cases

pub returns-then-byte-first : goal.returns-then-byte-first
returns-then-byte-first c =
    at_difference c.loop-first.left.now c.loop-first.rest.now _ c.loop-first.invariant _ _ c.in-Some.ensures.cases.0
    _ _ c.in-Some-split_first.ensures.cases.0 c.if-first-eq42.false c.if-byte-first.true

pub loop-first-preserved : goal.loop-first-preserved
loop-first-preserved c =
    at_same c.loop-first.left.now c.loop-first.rest.now _ c.loop-first.invariant _ _ c.in-Some.ensures.cases.0
    _ _ c.in-Some-split_first.ensures.cases.0 c.if-first-eq42.false c.if-byte-first.false

pub returns : goal.returns
returns c = c.is_empty.ensures ∙ name_ended c.loop-first.left.now c.loop-first.rest.now _ c.loop-first.invariant c.in_default.ensures.cases
