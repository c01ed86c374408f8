use Rattle.std.proofs.Common.{◌∙◌, sym, eq-eqb}
use Rattle.pam_released.proofs.Scanning.{begins_more, begins_one}
use Rattle.pam_released.proofs.lines.part_begins_in_blank.Goals as goal

pub returns-then-text-eq1 : goal.returns-then-text-eq1
returns-then-text-eq1 c = eq-eqb _ 1 c.if-text-eq1.true
    ∙ sym (begins_one c.args.line.now c.without_end_blanks-text.result.now (sym c.goes_on.ensures ∙ c.if-not-goes_on.false)
    c.without_end_blanks-text.ensures c.if-text-eq1.true)

pub returns-else-text-eq1 : goal.returns-else-text-eq1
returns-else-text-eq1 c = c.begins_in_blank-else-text-eq1.ensures
    ∙ sym (begins_more c.args.line.now c.without_end_blanks-text.result.now (sym c.goes_on.ensures ∙ c.if-not-goes_on.false)
    c.without_end_blanks-text.ensures c.if-text-eq1.false)
