use Rattle.pam_conf.proofs.ServiceSteps.{seen-of}
use Rattle.pam_report.proofs.ServiceSteps.{name-more}
use Rattle.pam_report.proofs.services.file_names.Goals as goal

pub loop-position-preserved : goal.loop-position-preserved
loop-position-preserved c =
    name-more c.args.files.now.entries c.loop-position.position c.loop-position.names.items c.unwrap-name.result _ _ c.in_ok-push.ensures.items
    (seen-of _ c.name.result c.unwrap-name.result _ c.name.ensures c.unwrap-name.ensures) c.loop-position.invariant
