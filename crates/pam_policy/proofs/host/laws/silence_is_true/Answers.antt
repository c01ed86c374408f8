use Rattle.pam_policy.proofs.HostProofs.Silence.{silent-holds}
use Rattle.pam_policy.proofs.host.laws.silence_is_true.Goals as goal

pub returns : goal.returns
returns c = silent-holds
