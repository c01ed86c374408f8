use Rattle.std.proofs.Common.{◌≡◌, map, take}
use Rattle.pam_findings.specs.tables.Tables.{of_time_fault}
use Rattle.pam_findings.proofs.tables.judging.time_faults.Given as goal

-- the faults so far are added
abbrev pub invariant-loop-error : goal.invariant-loop-error
invariant-loop-error l = l.problems.items ≡ map of_time_fault (take l.error-index l.error-items)
