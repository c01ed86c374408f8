use Rattle.pam_policy.proofs.HostProofs.Classes.{each-judged}
use Rattle.pam_policy.proofs.host.laws.each_place_is_judged.Goals as goal

pub returns : goal.returns
returns c = each-judged
