use Rattle.std.proofs.Common.{[], ◌∷◌, ◌++◌, ◌∙◌, ap}
use Rattle.pam_conf.specs.ItemsOf.{module_text}
use Rattle.pam_findings.specs.declared.host.problem.Spot.{Spot}
use Rattle.pam_findings.proofs.HostProofs.WrongArguments.{adds-lack}
use Rattle.pam_findings.proofs.host.arguments.push_lack.Goals as goal

pub returns-in_ok-push : goal.returns-in_ok-push
returns-in_ok-push c =
    adds-lack (module_text c.args.module.now) c.args.lack c.in-Some.lack c.args.spots.now.items c.push.new.self.items c.in-Some.is
    (c.in_ok-push.ensures.items ∙ ap (λ (spot : Spot). c.args.spots.now.items ++ spot ∷ []) c.spot_of.ensures)
