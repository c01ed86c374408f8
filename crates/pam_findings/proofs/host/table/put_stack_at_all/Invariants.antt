use Rattle.std.proofs.Common.{take}
use Rattle.pam_text.specs.Members.{Member}
use Rattle.pam_findings.specs.host.inner.Table.{Puts, with_stack}
use Rattle.pam_findings.proofs.host.table.put_stack_at_all.Given as goal

-- the problems so far are put
abbrev pub invariant-loop-spot : goal.invariant-loop-spot
invariant-loop-spot l = Puts (λ other. Member other (take l.spot-index l.spots)) (with_stack l.service l.kind) l.initial.table l.table
