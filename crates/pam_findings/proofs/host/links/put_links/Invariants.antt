use Rattle.std.proofs.Common.{None}
use Rattle.pam_findings.specs.host.inner.Linked.{IsFirstLink}
use Rattle.pam_findings.specs.host.inner.Table.{Puts, with_met}
use Rattle.pam_findings.proofs.host.links.put_links.Given as goal

-- S27 is put at those of the files so far
abbrev pub invariant-loop-position : goal.invariant-loop-position
invariant-loop-position l = Puts (IsFirstLink l.outside l.position) (with_met None) l.initial.table l.table
