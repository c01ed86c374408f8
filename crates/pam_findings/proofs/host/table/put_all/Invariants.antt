use Rattle.std.proofs.Common.{take}
use Rattle.pam_text.specs.Members.{Member}
use Rattle.pam_findings.specs.host.inner.Table.{Puts, with_met}
use Rattle.pam_findings.proofs.host.table.put_all.Given as goal

-- the problems so far are put
abbrev pub invariant-loop-spot : goal.invariant-loop-spot
invariant-loop-spot l = Puts (λ other. Member other (take l.spot-index l.spots)) (with_met l.met) l.initial.table l.table
