use Rattle.std.proofs.Common.{◌∙◌, sym}
use Rattle.pam_tables.proofs.FaultSteps.{bad_group_line, blank_group, some_group_line}
use Rattle.pam_tables.proofs.groups.check_line.Goals as goal

pub returns-then-is_blank_text : goal.returns-then-is_blank_text
returns-then-is_blank_text c = blank_group c.args.line.now (sym c.is_blank_text.ensures ∙ c.if-is_blank_text.true)

pub returns-in-Some : goal.returns-in-Some
returns-in-Some c = some_group_line c.args.line.now _ _ (sym c.is_blank_text.ensures ∙ c.if-is_blank_text.false) c.in-Some.ensures

pub returns-in-None : goal.returns-in-None
returns-in-None c = bad_group_line c.args.line.now (sym c.is_blank_text.ensures ∙ c.if-is_blank_text.false) c.in-None.ensures
