use Rattle.pam_findings.proofs.HostProofs.Halves.{NoneSoFar}
use Rattle.pam_findings.proofs.host.faillock.some_asked_with.Given as goal

-- none of the modules so far with the task is asked
abbrev pub invariant-loop-index : goal.invariant-loop-index
invariant-loop-index l = NoneSoFar l.stack l.never_asked l.counts l.index
