use Rattle.pam_text.specs.Members.{Member}
use Rattle.pam_findings.specs.host.inner.Looked.{OfModule}
use Rattle.pam_findings.specs.host.inner.Table.{Adds}
use Rattle.pam_findings.specs.declared.host.problem.Problem.TheVariants as problems
use Rattle.pam_findings.proofs.HostProofs.Adding.{OfFirst}
use Rattle.pam_findings.proofs.host.modules.push_asked.Given as goal

-- the modules so far are added
abbrev pub invariant-loop-index : goal.invariant-loop-index
invariant-loop-index l =
    Adds (OfFirst (λ number spot. (Member number l.never_asked → ⊥) × OfModule problems.NeverAsked l.stack number spot) l.index)
    l.initial.asked.items l.asked.items
