use Rattle.std.proofs.Common.{◌∙◌, List, Some, ap, map, refl}
use Rattle.pam_released.specs.inner.Numbered.{line_view}
use Rattle.pam_released.specs.declared.assembly.LogicalLine.{LogicalLine}
use Rattle.pam_released.proofs.ReadingSteps.{line_at, lines_refused, no_line, plain_refused, plain_rules, reading_at, rule_pushed}
use Rattle.pam_released.proofs.ReadingSteps.{rules_first, rules_read}
use Rattle.pam_released.proofs.reading.released_rules.Goals as goal

pub returns-in_default-clause-readings : goal.returns-in_default-clause-readings
returns-in_default-clause-readings c =
    plain_refused c.args.release c.args.form c.args.source.bytes.now
    (lines_refused c.args.release c.args.form c.args.source.bytes.now (rw c.in_default.is at c.in_ok-lines.ensures))

pub loop-line-init : goal.loop-line-init
loop-line-init c =
    rules_first c.args.release c.args.form c.args.source.bytes.now _ _ c.new-rules.ensures.items
    (ap (λ (ls : List LogicalLine). Some (map line_view ls)) c.deref-line-items.ensures.value ∙ rw c.in-Some.is at c.in_ok-lines.ensures)

pub loop-line-preserved : goal.loop-line-preserved
loop-line-preserved c =
    rule_pushed c.args.release c.args.form _ _ _ (line_view c.line-item.result) _ _ _ c.in_ok-push.ensures.items refl
    (line_at c.deref-line-items.result.now c.loop-line.line-index c.line-item.result c.loop-line-test.true c.line-item.is)
    (reading_at c.args.release c.args.form (line_view c.line-item.result) _ _ _ c.in_ok-reading.ensures c.iter.ensures c.in_ok-texts.ensures)
    c.loop-line.invariant

pub returns-clause-rules : goal.returns-clause-rules
returns-clause-rules c = rules_read c.args.release c.args.form _ _ _ (no_line _ _ c.loop-line-test.false) c.loop-line.invariant

pub returns-clause-readings : goal.returns-clause-readings
returns-clause-readings c = plain_rules c.args.release c.args.form c.args.source.bytes.now _ (returns-clause-rules c)
