use Rattle.std.proofs.Common.{◌∙◌, sym}
use Rattle.pam_conf.proofs.ServiceSteps.{text-later}
use Rattle.pam_conf.proofs.service_names.has_text.Goals as goal

pub loop-start-preserved : goal.loop-start-preserved
loop-start-preserved c =
    text-later c.args.text.now c.args.name.now c.loop-start.start c.loop-start-test.true (sym c.starts_with.ensures.value ∙ c.if-starts_with.false)
    ∙ c.loop-start.invariant
