use Rattle.std.proofs.Common.{map, subst}
use Rattle.std.proofs.lemmas.Result.{err_from_is_err_and}
use Rattle.pam_policy.specs.declared.text.rule.Rule.{Rule}
use Rattle.pam_policy.specs.host.Reports.{IsReport}
use Rattle.pam_policy.specs.host.Stacks.{stacks_view}
use Rattle.pam_policy.specs.names.Host.{host_view}
use Rattle.pam_policy.specs.rules.Judging.{IsReason}
use Rattle.pam_policy.specs.text.Rules.{rule_view}
use Rattle.pam_policy.proofs.HostProofs.Told.{report-next, reports-done, why-not}
use Rattle.pam_policy.proofs.host.told.reports_on.Goals as goal

pub loop-rule-preserved : goal.loop-rule-preserved
loop-rule-preserved c graphs =
    let host = host_view c.args.host.now in
    let stacks = stacks_view c.args.stacks.now in
    report-next host stacks c.args.rules.now c.loop-rule.rule-index c.rule-item.result (map rule_view c.args.rules.now)
    c.loop-rule.reports.items _ _ c.in_ok-push.ensures.items c.loop-rule-test.true
    (subst (λ (rule : Rule). IsReport host stacks (rule_view rule) c.in_ok-report.report) c.rule-item.is (c.in_ok-report.ensures.report graphs))
    (c.loop-rule.invariant graphs)

pub returns-in_err-report-clause-reason : goal.returns-in_err-report-clause-reason
returns-in_err-report-clause-reason c =
    let p = err_from_is_err_and c.from_residual.result c.from_residual.ensures.1 in
    rw (p.1, p.2) (why-not c.args.rules.now c.loop-rule.rule-index c.rule-item.result c.in_err-report.field-0.0 c.loop-rule-test.true
    (subst (λ (rule : Rule). IsReason (rule_view rule).sentence c.in_err-report.field-0.0) c.rule-item.is c.in_err-report.ensures.reason))

pub returns-clause-reports : goal.returns-clause-reports
returns-clause-reports c graphs =
    reports-done (host_view c.args.host.now) (stacks_view c.args.stacks.now) c.args.rules.now c.loop-rule.rule-index (map rule_view c.args.rules.now)
    c.loop-rule.reports.items c.loop-rule-test.false (c.loop-rule.invariant graphs)
