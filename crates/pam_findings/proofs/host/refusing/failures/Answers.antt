use Rattle.pam_findings.proofs.HostProofs.Storing.{failures-without}
use Rattle.pam_findings.proofs.host.refusing.failures.Goals as goal

pub returns : goal.returns
returns c =
    failures-without _ _ _ _ _ _ _ c.all.ensures c.single.ensures c.single-2.ensures c.single-3.ensures c.without.ensures c.without-2.ensures
    c.without-3.ensures
