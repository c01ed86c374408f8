use Rattle.pam_findings.specs.host.inner.Looked.{OfNumber}
use Rattle.pam_findings.specs.host.inner.Table.{Adds}
use Rattle.pam_findings.proofs.HostProofs.Adding.{OfFirst}
use Rattle.pam_findings.proofs.host.modules.push_modules.Given as goal

-- the modules so far are added
abbrev pub invariant-loop-index : goal.invariant-loop-index
invariant-loop-index l =
    Adds (OfFirst (OfNumber l.modules l.service l.kind l.stack) l.index) l.initial.spots.items l.spots.items
