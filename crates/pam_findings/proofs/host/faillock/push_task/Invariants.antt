use Rattle.pam_findings.specs.host.inner.Halves.{HasTaskAt}
use Rattle.pam_findings.specs.host.inner.Looked.{OfModule}
use Rattle.pam_findings.specs.host.inner.Table.{Adds}
use Rattle.pam_findings.specs.declared.host.problem.Problem.TheVariants as problems
use Rattle.pam_findings.proofs.HostProofs.Adding.{OfFirst}
use Rattle.pam_findings.proofs.host.faillock.push_task.Given as goal

-- the modules so far are added
abbrev pub invariant-loop-index : goal.invariant-loop-index
invariant-loop-index l =
    Adds (OfFirst (λ number spot. HasTaskAt l.stack l.counts number × OfModule (problems.NotCounted l.counts) l.stack number spot) l.index)
    l.initial.spots.items l.spots.items
