use Rattle.std.proofs.Common.{refl}
use Rattle.pam_conf.proofs.ServiceSteps.{faultless-none, seen-none}
use Rattle.pam_conf.proofs.sound.is_faultless.Goals as goal

pub returns-in-None : goal.returns-in-None
returns-in-None c = (λ t. faultless-none c.args.rules.now c.args.file (seen-none _ c.faults.result _ c.faults.ensures c.in-None.is), λ f. refl)
