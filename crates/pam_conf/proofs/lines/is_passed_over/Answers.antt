use Rattle.std.proofs.Common.{◌∙◌, ap, sym}
use Rattle.pam_conf.specs.inner.Wanted.{with_rule}
use Rattle.pam_conf.proofs.LineSteps.{blank_line}
use Rattle.pam_conf.proofs.lines.is_passed_over.Goals as goal

pub returns-then-is_blank_line : goal.returns-then-is_blank_line
returns-then-is_blank_line c t number rules =
    ap (with_rule _ rules) (blank_line c.args.form number c.args.line.now (sym c.is_blank_line.ensures ∙ c.if-is_blank_line.true))
