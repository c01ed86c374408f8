use Rattle.std.proofs.Common.{take}
use Rattle.pam_text.specs.Members.{Member}
use Rattle.pam_findings.specs.host.inner.Table.{Removes}
use Rattle.pam_findings.proofs.host.table.remove_all.Given as goal

-- the findings so far are removed
abbrev pub invariant-loop-spot : goal.invariant-loop-spot
invariant-loop-spot l = Removes (λ other. Member other (take l.spot-index l.spots)) l.initial.table l.table
