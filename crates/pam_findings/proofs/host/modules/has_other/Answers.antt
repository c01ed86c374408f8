use Rattle.std.proofs.Common.{arith}
use Rattle.pam_findings.proofs.HostProofs.Adding.{no-other}
use Rattle.pam_findings.proofs.host.modules.has_other.Goals as goal

pub returns-clause-none : goal.returns-clause-none
returns-clause-none c _ =
    no-other c.args.stack.now c.loop-index.index c.items-items.ensures.numbered (omega (arith, c.modules-index-end.ensures.count)) c.loop-index.invariant
