use Rattle.std.proofs.Common.{◌∙◌, sym}
use Rattle.pam_tables.proofs.TimesProofs.CheckSteps.{blank_line, field_empty, field_missing, list_fails, none_fails}
use Rattle.pam_tables.specs.times.Reading.{fields_view}
use Rattle.pam_tables.proofs.times.reading.check_line.Goals as goal

pub returns-then-is_rule : goal.returns-then-is_rule
returns-then-is_rule c = λ number. sym (c.is_rule.ensures c.if-is_rule.true number)

pub returns-then-is_blank_text : goal.returns-then-is_blank_text
returns-then-is_blank_text c = λ number. sym (blank_line number c.args.line.now (sym c.is_blank_text.ensures ∙ c.if-is_blank_text.true))

pub returns-in_default : goal.returns-in_default
returns-in_default c = λ number.
    sym (field_missing number c.args.line.now (sym c.is_blank_text.ensures ∙ c.if-is_blank_text.false) c.in_default.ensures)

pub returns-in-Ok : goal.returns-in-Ok
returns-in-Ok c = λ number. sym (none_fails number c.args.line.now (fields_view c.in-Some.fields) c.in-Some.ensures c.in-Ok.ensures)

pub returns-then-has_empty : goal.returns-then-has_empty
returns-then-has_empty c = λ number.
    sym (field_empty number c.args.line.now (fields_view c.in-Some.fields) c.in-Some.ensures (sym c.has_empty.ensures ∙ c.if-has_empty.true))

pub returns-else-has_empty : goal.returns-else-has_empty
returns-else-has_empty c = λ number.
    sym (list_fails number c.args.line.now (fields_view c.in-Some.fields) c.in-Some.ensures c.in-Err.fault c.in-Err.ensures
    (sym c.has_empty.ensures ∙ c.if-has_empty.false))
