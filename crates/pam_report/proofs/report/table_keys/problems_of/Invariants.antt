-- the problems so far, and those that are left
use Rattle.std.proofs.Common.{◌≡◌, ◌++◌, map}
use Rattle.pam_report.specs.Accepting.{table_findings}
use Rattle.pam_report.proofs.report.table_keys.problems_of.Given as goal

abbrev pub invariant-loop-place : goal.invariant-loop-place
invariant-loop-place l = l.problems.items ++ map (λ e. e.1) l._place-iterator ≡ table_findings l.found
