-- the modules so far that say who logs in are marked
use Rattle.std.proofs.Common.{not}
use Rattle.pam_dispatch.specs.State.{success}
use Rattle.pam_paths.specs.Known.{may_answer}
use Rattle.pam_findings.proofs.HostProofs.Tokens.{MarkedSoFar}
use Rattle.pam_findings.proofs.host.uncounted.checking.Given as goal

abbrev pub invariant-loop-index : goal.invariant-loop-index
invariant-loop-index l = MarkedSoFar (λ number. not (may_answer l.failing number success)) l.index l.marks
