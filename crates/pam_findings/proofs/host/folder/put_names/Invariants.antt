use Rattle.std.proofs.Common.{None}
use Rattle.pam_findings.specs.host.inner.OfFolder.{IsNameProblem}
use Rattle.pam_findings.specs.host.inner.Table.{Puts, with_met}
use Rattle.pam_findings.proofs.host.folder.put_names.Given as goal

-- the problems of the names so far are put
abbrev pub invariant-loop-file : goal.invariant-loop-file
invariant-loop-file l = Puts (IsNameProblem l.files l.file) (with_met None) l.initial.table l.table
