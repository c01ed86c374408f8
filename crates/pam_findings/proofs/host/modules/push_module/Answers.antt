use Rattle.std.proofs.Common.{[], ◌∷◌, ◌++◌, ◌∙◌, ap}
use Rattle.pam_conf.specs.ItemsOf.{module_text}
use Rattle.pam_findings.specs.declared.host.problem.Spot.{Spot}
use Rattle.pam_findings.proofs.HostProofs.Adding.{at-module, of-module}
use Rattle.pam_findings.proofs.host.modules.push_module.Goals as goal

pub returns : goal.returns
returns c =
    let rule = module_text c.in-Some.module.now in
    of-module c.args.problem c.args.stack.now c.args.number rule
    (at-module _ c.module.result c.in-Some.module c.args.stack.now c.args.number c.module.ensures.module c.in-Some.is)
    c.args.spots.now.items c.push.new.self.items
    (c.in_ok-push.ensures.items ∙ ap (λ (spot : Spot). c.args.spots.now.items ++ spot ∷ []) c.spot_of.ensures)
