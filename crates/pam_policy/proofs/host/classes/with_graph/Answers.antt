use Rattle.std.proofs.Common.{refl}
use Rattle.pam_compare.proofs.SameItems.{same-self}
use Rattle.pam_policy.proofs.HostProofs.Found.{agree-self, holds-known}
use Rattle.pam_policy.proofs.host.classes.with_graph.Goals as goal

pub returns-clause-holds : goal.returns-clause-holds
returns-clause-holds c = holds-known c.args.answered _ _ refl refl (same-self c.args.answered.stack) (agree-self _ _) c.requires
