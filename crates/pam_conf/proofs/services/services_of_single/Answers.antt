use Rattle.std.proofs.Common.{◌∙◌, sym}
use Rattle.pam_conf.proofs.ServiceSteps.{seen-none, single-none}
use Rattle.pam_conf.proofs.services.services_of_single.Goals as goal

pub returns-in-None : goal.returns-in-None
returns-in-None c =
    c.new.ensures ∙ sym (single-none c.args.rules.now c.requires (seen-none _ c.in_ok-rules.field-0 _ c.in_ok-rules.ensures c.in-None.is))
