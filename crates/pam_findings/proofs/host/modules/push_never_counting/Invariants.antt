use Rattle.pam_findings.specs.host.Verdicts.{SaysWhoLogsIn}
use Rattle.pam_findings.specs.host.inner.Table.{Adds}
use Rattle.pam_findings.specs.declared.host.problem.Problem.TheVariants as problems
use Rattle.pam_findings.proofs.HostProofs.Vain.{OfFirst}
use Rattle.pam_findings.proofs.host.modules.push_never_counting.Given as goal

-- the modules so far are added
abbrev pub invariant-loop-number : goal.invariant-loop-number
invariant-loop-number l =
    Adds (OfFirst problems.SuccessNeverCounts l.stack (SaysWhoLogsIn l.failing) l.numbers l.number-index) l.initial.spots.items l.spots.items
