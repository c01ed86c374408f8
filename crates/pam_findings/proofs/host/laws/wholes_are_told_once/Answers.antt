use Rattle.pam_findings.proofs.HostProofs.Once.{only-wholes, wholes-once}
use Rattle.pam_findings.proofs.host.laws.wholes_are_told_once.Goals as goal

pub returns : goal.returns
returns c = record {
  once = wholes-once;
  only = only-wholes;
}
