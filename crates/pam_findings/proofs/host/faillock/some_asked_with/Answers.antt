use Rattle.std.proofs.Common.{arith}
use Rattle.pam_findings.proofs.HostProofs.Halves.{none-of-all}
use Rattle.pam_findings.proofs.host.faillock.some_asked_with.Goals as goal

pub returns-clause-no : goal.returns-clause-no
returns-clause-no c _ =
    none-of-all c.args.stack.now c.args.never_asked.now c.args.counts c.loop-index.index c.items-items.ensures.numbered
    (omega (arith, c.modules-index-end.ensures.count)) c.loop-index.invariant
