use Rattle.pam_findings.specs.host.inner.Looked.{OfModule, judgement_in}
use Rattle.pam_findings.specs.host.inner.Storing.{IsStored}
use Rattle.pam_findings.specs.host.inner.Table.{Adds}
use Rattle.pam_findings.specs.declared.host.problem.Problem.TheVariants as problems
use Rattle.pam_findings.proofs.HostProofs.Adding.{OfFirst}
use Rattle.pam_findings.proofs.host.storing.push_refused.Given as goal

-- the modules so far are added
abbrev pub invariant-loop-index : goal.invariant-loop-index
invariant-loop-index l =
    Adds (OfFirst (λ number spot. IsStored l.by (judgement_in l.of) number × OfModule (problems.StoredThoughRefused l.by) l.of.stack.now number spot) l.index)
    l.initial.spots.items l.spots.items
