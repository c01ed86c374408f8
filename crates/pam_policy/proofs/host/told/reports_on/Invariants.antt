use Rattle.std.proofs.Common.{◌++◌, List, drop, map}
use Rattle.pam_policy.specs.declared.host.report.RuleReport.{RuleReport}
use Rattle.pam_policy.specs.host.Stacks.{HaveGraphs, stacks_view}
use Rattle.pam_policy.specs.host.Told.{AreReports}
use Rattle.pam_policy.specs.names.Host.{host_view}
use Rattle.pam_policy.specs.text.Rules.{rule_view}
use Rattle.pam_policy.proofs.host.told.reports_on.Given as goal

-- the reports so far, and then those on the rules that are left, are those on all
abbrev pub invariant-loop-rule : goal.invariant-loop-rule
invariant-loop-rule l =
    HaveGraphs l.stacks.classes.now → (rest : List RuleReport) →
    AreReports (host_view l.host) (stacks_view l.stacks) (map rule_view (drop l.rule-index l.rules)) rest →
    AreReports (host_view l.host) (stacks_view l.stacks) (map rule_view l.rules) (l.reports.items ++ rest)
