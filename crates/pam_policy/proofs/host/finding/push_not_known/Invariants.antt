use Rattle.std.proofs.Common.{◌≡◌, ◌++◌, drop, filter_map, map}
use Rattle.pam_policy.specs.host.Findings.{finding_view, not_known}
use Rattle.pam_policy.proofs.host.finding.push_not_known.Given as goal

-- the findings so far, and those of the classes that are left
abbrev pub invariant-loop-report : goal.invariant-loop-report
invariant-loop-report l =
    map finding_view l.found.items ++ filter_map not_known (drop l.report-index l.reports)
    ≡ map finding_view l.initial.found.items ++ filter_map not_known l.reports
