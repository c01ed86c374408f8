use Rattle.std.proofs.Common.{◌≡◌, ◌++◌, map, take}
use Rattle.pam_findings.specs.tables.Tables.{of_fault}
use Rattle.pam_findings.specs.declared.tables.problem.HostTable.TheVariants.{Access}
use Rattle.pam_findings.proofs.tables.judging.push_access_faults.Given as goal

-- the faults so far are added
abbrev pub invariant-loop-error : goal.invariant-loop-error
invariant-loop-error l = l.problems.items ≡ l.initial.problems.items ++ map (of_fault Access l.number) (take l.error-index l.error-items)
