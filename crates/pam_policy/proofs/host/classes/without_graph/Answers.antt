use Rattle.std.proofs.Common.{refl}
use Rattle.pam_policy.proofs.HostProofs.Found.{holds-large, like-itself}
use Rattle.pam_policy.proofs.host.classes.without_graph.Goals as goal

pub returns-clause-holds : goal.returns-clause-holds
returns-clause-holds c = holds-large c.args.answered.now _ (record { kind_is = refl; stack = refl }) (like-itself c.args.answered.now c.requires)
