use Rattle.pam_text.specs.Left.{text_left}
use Rattle.pam_text.specs.Text.{text_lines}
use Rattle.pam_released.proofs.Pushing.{rule_end, rule_step}
use Rattle.pam_released.proofs.survey.rule_findings.Goals as goal

pub loop-found-preserved : goal.loop-found-preserved
loop-found-preserved c =
    rule_step c.args.form c.in-Some.line.number c.in-Some.line.bytes.now (text_lines (text_left c.loop-found.text))
    (text_lines (text_left c.next_line.new.self)) c.loop-found.found.items c.push_rule_differences.new.found.items _
    (rw c.in-Some.is at c.in_ok-line.ensures.lines) c.in_ok-push_rule_differences.ensures c.loop-found.invariant

pub returns : goal.returns
returns c =
    rule_end c.args.form (text_lines (text_left c.loop-found.text)) c.loop-found.found.items _ (rw c.in_default.is at c.in_ok-line.ensures.lines)
    c.loop-found.invariant
