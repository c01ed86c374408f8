-- the users that are added, and those of the lines that are left
use Rattle.std.proofs.Common.{◌≡◌, ◌++◌, ℕ, List, length}
use Rattle.pam_report.specs.Passwd.{lines_of, users_of}
use Rattle.pam_report.specs.inner.Passwd.{users_known}
use Rattle.pam_report.proofs.passwd.users_by_number.Given as goal

abbrev pub invariant-loop-line : goal.invariant-loop-line
invariant-loop-line l = (n : List ℕ) → users_known n l.users.entries ++ users_of n (lines_of l.rest) ≡ users_of n (lines_of l.passwd)

abbrev pub decreases-loop-line : goal.decreases-loop-line
decreases-loop-line l = length l.rest
