use Rattle.pam_tables.proofs.TimesProofs.LogicSteps.{and_next, empty_next, fault_next, or_next}
use Rattle.pam_tables.proofs.times.logic.next_joint.Goals as goal

pub returns-in_default-clause-items : goal.returns-in_default-clause-items
returns-in_default-clause-items c = empty_next c.args.text.now _ c.skip_blanks.ensures.signs c.in_default.ensures.cases

pub returns-then-first-eq38-clause-items : goal.returns-then-first-eq38-clause-items
returns-then-first-eq38-clause-items c =
    and_next c.args.text.now _ c.skip_blanks.ensures.signs c.in-Some.first.now c.in-Some.after.now c.in-Some.ensures.cases.0 c.if-first-eq38.true

pub returns-then-first-eq124-clause-items : goal.returns-then-first-eq124-clause-items
returns-then-first-eq124-clause-items c =
    or_next c.args.text.now _ c.skip_blanks.ensures.signs c.in-Some.first.now c.in-Some.after.now c.in-Some.ensures.cases.0 c.if-first-eq124.true

pub returns-clause-items : goal.returns-clause-items
returns-clause-items c =
    fault_next c.args.text.now _ c.skip_blanks.ensures.signs c.in-Some.first.now c.in-Some.after.now c.in-Some.ensures.cases.0
    c.skip_blanks.ensures.first c.if-first-eq38.false c.if-first-eq124.false
