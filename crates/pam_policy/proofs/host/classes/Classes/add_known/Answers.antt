use Rattle.pam_policy.proofs.HostProofs.Found.{adds-one, holds-at, last-at}
use Rattle.pam_policy.proofs.host.classes.Classes.add_known.Goals as goal

pub returns-clause-adds : goal.returns-clause-adds
returns-clause-adds c =
    adds-one c.args.self.now _ _ c.in_ok-position.ensures.classes c.in_ok-position.ensures.large c.with_graph-class.ensures.graph

pub returns-clause-class : goal.returns-clause-class
returns-clause-class c =
    holds-at c.args.answered _ c.in_ok-position.position _
    (last-at c.args.self.now.classes.items _ _ c.in_ok-position.position c.in_ok-position.ensures.classes c.in_ok-position.ensures.position)
    c.with_graph-class.ensures.holds
