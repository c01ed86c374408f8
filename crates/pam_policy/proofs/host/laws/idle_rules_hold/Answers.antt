use Rattle.pam_policy.proofs.HostProofs.Idle.{idle-holds}
use Rattle.pam_policy.proofs.host.laws.idle_rules_hold.Goals as goal

pub returns : goal.returns
returns c = idle-holds
