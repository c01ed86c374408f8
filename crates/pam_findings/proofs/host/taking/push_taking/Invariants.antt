-- the modules so far are looked at
use Rattle.pam_findings.specs.host.inner.Looked.{judgement_in}
use Rattle.pam_findings.specs.host.inner.Table.{Adds}
use Rattle.pam_findings.specs.host.inner.Taking.{LacksAt}
use Rattle.pam_findings.proofs.HostProofs.Adding.{OfFirst}
use Rattle.pam_findings.proofs.host.taking.push_taking.Given as goal

abbrev pub invariant-loop-index : goal.invariant-loop-index
invariant-loop-index l = Adds (OfFirst (LacksAt l.kind (judgement_in l.of)) l.index) l.initial.spots.items l.spots.items
