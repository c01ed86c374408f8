use Rattle.std.proofs.Common.{map}
use Rattle.pam_findings.specs.tables.inner.Passes.{need_view}
use Rattle.pam_findings.proofs.TablesProofs.Adding.{Comes}
use Rattle.pam_findings.proofs.tables.needs.needs_of.Given as goal

-- the services that are left add what is not yet known
abbrev pub invariant-loop-service : goal.invariant-loop-service
invariant-loop-service l = Comes l.rules l.services l.service-iterator (map need_view l.needs.items)
