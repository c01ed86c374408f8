use Rattle.pam_conf.proofs.NameSteps.{has-found}
use Rattle.pam_conf.proofs.name_list.NameList.has.Goals as goal

pub returns : goal.returns
returns c =
    has-found (λ name. name.items) c.args.name.now c.self.inside.known.keys c.self.inside.names c.args.self.now _ c.self.invariant c.self.view_is
    c.contains.ensures
