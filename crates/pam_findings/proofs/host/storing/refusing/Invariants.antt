-- the modules so far that may refuse a password are marked
use Rattle.pam_findings.specs.host.inner.Storing.{refuses_at}
use Rattle.pam_findings.proofs.HostProofs.Tokens.{MarkedSoFar}
use Rattle.pam_findings.proofs.host.storing.refusing.Given as goal

abbrev pub invariant-loop-index : goal.invariant-loop-index
invariant-loop-index l = MarkedSoFar (refuses_at l.by l.stack) l.index l.marks
