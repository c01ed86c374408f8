use Rattle.pam_findings.specs.host.inner.Own.{IsRead, read_by}
use Rattle.pam_findings.specs.host.inner.Table.{Puts}
use Rattle.pam_findings.proofs.host.own.put_files.Given as goal

-- the problems of the files so far are put
abbrev pub invariant-loop-file : goal.invariant-loop-file
invariant-loop-file l = Puts (IsRead l.checker.files.now l.checker.vendor_start l.readers l.file) (read_by l.readers) l.initial.table l.table
