-- the lines that are written, and those that are left
use Rattle.std.proofs.Common.{◌≡◌, ◌++◌, length}
use Rattle.pam_report.specs.Passwd.{lines_of, lines_with, users_of}
use Rattle.pam_report.proofs.passwd.with_primary_members.Given as goal

abbrev pub invariant-loop-line : goal.invariant-loop-line
invariant-loop-line l =
    l.text.items ++ lines_with (λ n. users_of n (lines_of l.passwd)) (lines_of l.rest) ≡ lines_with (λ n. users_of n (lines_of l.passwd)) (lines_of l.groups)

abbrev pub decreases-loop-line : goal.decreases-loop-line
decreases-loop-line l = length l.rest
