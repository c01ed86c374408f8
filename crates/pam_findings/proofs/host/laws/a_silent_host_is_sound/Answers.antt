use Rattle.pam_findings.proofs.HostProofs.Silence.{silent_host}
use Rattle.pam_findings.proofs.host.laws.a_silent_host_is_sound.Goals as goal

pub returns : goal.returns
returns c = silent_host
