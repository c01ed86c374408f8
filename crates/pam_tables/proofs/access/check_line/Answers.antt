use Rattle.std.proofs.Common.{◌∙◌, sym, ap}
use Rattle.pam_tables.specs.Error.{verdict}
use Rattle.pam_tables.proofs.AccessSteps.{passed, few_fields, fields_verdict}
use Rattle.pam_tables.proofs.access.check_line.Goals as goal

pub returns-then-is_passed_over : goal.returns-then-is_passed_over
returns-then-is_passed_over c = λ n. sym (ap verdict (passed _ _ n _ (sym c.is_passed_over.ensures ∙ c.if-is_passed_over.true)))

pub returns-in-Some : goal.returns-in-Some
returns-in-Some c = λ n.
    c.check_fields.ensures n ∙ fields_verdict _ _ n _ (sym c.is_passed_over.ensures ∙ c.if-is_passed_over.false) _ _ _ c.in-Some.ensures

pub returns-in-None : goal.returns-in-None
returns-in-None c = λ n. sym (ap verdict (few_fields _ _ n _ (sym c.is_passed_over.ensures ∙ c.if-is_passed_over.false) c.in-None.ensures))
