use Rattle.std.proofs.Common.{◌≡◌, map, take}
use Rattle.pam_findings.specs.tables.Tables.{of_fault}
use Rattle.pam_findings.specs.declared.tables.problem.HostTable.TheVariants.{Groups}
use Rattle.pam_findings.proofs.tables.judging.group_problems.Given as goal

-- the faults so far are added
abbrev pub invariant-loop-error : goal.invariant-loop-error
invariant-loop-error l = l.problems.items ≡ map (of_fault Groups 0) (take l.error-index l.error-items)
