-- the names so far, then those that are left
use Rattle.std.proofs.Common.{◌≡◌, ◌≤◌, ◌++◌, length, map}
use Rattle.pam_report.proofs.report.unused.first_of.Given as goal

abbrev pub invariant-loop-name : goal.invariant-loop-name
invariant-loop-name l = record {
  few : length l.first.items ≤ 1000;
  all : map (λ n. n.now) l.first.items ++ l.name-iterator ≡ l.names;
}
