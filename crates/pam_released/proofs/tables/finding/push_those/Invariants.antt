use Rattle.std.proofs.Common.{◌≡◌, ◌++◌, drop}
use Rattle.pam_released.specs.tables.Findings.{found_at}
use Rattle.pam_released.proofs.tables.finding.push_those.Given as goal

abbrev pub invariant-loop-holds : goal.invariant-loop-holds
invariant-loop-holds l = l.findings.items ++ found_at l.line (drop l.holds-index l.tests) ≡ l.fn.findings.items ++ found_at l.line l.tests
