use Rattle.std.proofs.Common.{◌≡◌, ◌++◌, map, take}
use Rattle.pam_findings.specs.tables.Tables.{of_difference}
use Rattle.pam_findings.proofs.tables.judging.push_differences.Given as goal

-- the differences so far are added
abbrev pub invariant-loop-difference : goal.invariant-loop-difference
invariant-loop-difference l = l.problems.items ≡ l.initial.problems.items ++ map (of_difference l.table l.number) (take l.difference-index l.found)
