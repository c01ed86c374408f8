use Rattle.std.proofs.Common.{◌∙◌, ◌++◌, ◌∷◌, [], List, ap}
use Rattle.pam_policy.specs.declared.host.classes.LargeStack.{LargeStack}
use Rattle.pam_policy.proofs.HostProofs.Found.{adds-large, holds-at, last-at}
use Rattle.pam_policy.proofs.host.classes.Classes.add_large.Goals as goal

pub returns-clause-adds : goal.returns-clause-adds
returns-clause-adds c =
    let large : LargeStack = record { answered = c.args.answered; class = c.in_ok-class.class } in
    adds-large c.args.self.now _ _ large c.in_ok-class.ensures.classes
    (c.in_ok-push.ensures.items ∙ ap (λ (l : List LargeStack). l ++ large ∷ []) c.in_ok-class.ensures.large)
    c.without_graph.ensures.graph c.requires

pub returns-clause-class : goal.returns-clause-class
returns-clause-class c =
    holds-at c.args.answered _ c.in_ok-class.class _
    (last-at c.args.self.now.classes.items _ _ c.in_ok-class.class c.in_ok-class.ensures.classes c.in_ok-class.ensures.position)
    c.without_graph.ensures.holds
