use Rattle.std.proofs.Common.{refl}
use Rattle.pam_policy.proofs.HostProofs.Found.{adds-none, adds-one, last-at, refuses-at}
use Rattle.pam_policy.proofs.host.classes.Classes.class_refused.Goals as goal

pub returns-in-Some-clause-adds : goal.returns-in-Some-clause-adds
returns-in-Some-clause-adds c = adds-none c.args.self.now

pub returns-clause-adds : goal.returns-clause-adds
returns-clause-adds c = adds-one c.args.self.now _ _ c.in_ok-position.ensures.classes c.in_ok-position.ensures.large tt

pub returns-clause-class : goal.returns-clause-class
returns-clause-class c =
    refuses-at c.args.kind c.args.fault _ c.in_ok-position.position _
    (last-at c.args.self.now.classes.items _ _ c.in_ok-position.position c.in_ok-position.ensures.classes c.in_ok-position.ensures.position)
    (record { kind_is = refl; stack = refl })
