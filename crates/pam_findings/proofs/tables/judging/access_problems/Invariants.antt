use Rattle.std.proofs.Common.{◌+◌, ◌++◌, ◌<◌, ◌≡◌}
use Prim.Native.Nat.{◌^◌}
use Rattle.pam_findings.specs.tables.Tables.{all_access_problems}
use Rattle.pam_findings.proofs.tables.judging.access_problems.Given as goal

-- the problems of the tables so far, and of those that are left
abbrev pub invariant-loop-number : goal.invariant-loop-number
invariant-loop-number l =
    (goal.iterator-loop-number).can_next l.bytes-iterator × (goal.iterator-loop-number).is_finite l.bytes-iterator
    × (l.number + (goal.iterator-loop-number).remaining l.bytes-iterator < 2 ^ 64)
    × (l.problems.items ++ all_access_problems l.options l.number l.bytes-iterator ≡ all_access_problems l.options 0 l.tables)
