use Rattle.std.proofs.Common.{[], ◌∷◌, ◌++◌, ◌∙◌, ap}
use Rattle.pam_conf.specs.ItemsOf.{module_text}
use Rattle.pam_findings.specs.declared.host.problem.Spot.{Spot}
use Rattle.pam_findings.proofs.HostProofs.Ruled.{adds-rule}
use Rattle.pam_findings.proofs.host.modules.push_if.Goals as goal

pub returns-in_ok-push : goal.returns-in_ok-push
returns-in_ok-push c =
    adds-rule (module_text c.args.module.now) c.args.problem c.args.spots.now.items c.push.new.self.items c.args.has c.if-has.true
    (c.in_ok-push.ensures.items ∙ ap (λ (spot : Spot). c.args.spots.now.items ++ spot ∷ []) c.spot_of.ensures)
