-- the modules so far that may ask for a token are marked
use Rattle.pam_findings.specs.host.inner.Taking.{asks_for_at}
use Rattle.pam_findings.proofs.HostProofs.Tokens.{MarkedSoFar}
use Rattle.pam_findings.proofs.host.taking.asking.Given as goal

abbrev pub invariant-loop-index : goal.invariant-loop-index
invariant-loop-index l = MarkedSoFar (asks_for_at l.kind l.stack) l.index l.marks
