use Rattle.std.proofs.Common.{take}
use Rattle.pam_text.specs.Members.{Member}
use Rattle.pam_findings.specs.host.inner.Looked.{OfModules}
use Rattle.pam_findings.specs.host.inner.Table.{Adds}
use Rattle.pam_findings.specs.declared.host.problem.Problem.TheVariants as problems
use Rattle.pam_findings.proofs.host.modules.push_jumps.Given as goal

-- the modules so far are added
abbrev pub invariant-loop-number : goal.invariant-loop-number
invariant-loop-number l =
    Adds (OfModules problems.JumpPastEnd l.stack (λ number. Member number (take l.number-index l.numbers))) l.initial.spots.items l.spots.items
