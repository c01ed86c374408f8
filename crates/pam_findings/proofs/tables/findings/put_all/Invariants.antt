use Rattle.std.proofs.Common.{take}
use Rattle.pam_text.specs.Members.{Member}
use Rattle.pam_findings.specs.tables.inner.Passes.{Puts}
use Rattle.pam_findings.proofs.tables.findings.put_all.Given as goal

-- the problems so far are found
abbrev pub invariant-loop-finding : goal.invariant-loop-finding
invariant-loop-finding l = Puts (λ other. Member other (take l.finding-index l.findings)) l.initial.found l.found
