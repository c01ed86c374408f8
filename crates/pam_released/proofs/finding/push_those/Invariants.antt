use Rattle.std.proofs.Common.{◌≡◌, ◌++◌, drop, map}
use Rattle.pam_released.specs.Findings.{located, those}
use Rattle.pam_released.proofs.finding.push_those.Given as goal

abbrev pub invariant-loop-holds : goal.invariant-loop-holds
invariant-loop-holds l = l.findings.items ++ map (located l.line) (those (drop l.holds-index l.tests))
    ≡ l.fn.findings.items ++ map (located l.line) (those l.tests)
