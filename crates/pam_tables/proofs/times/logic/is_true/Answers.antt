use Rattle.pam_tables.specs.times.inner.Fact.{meets}
use Rattle.pam_tables.proofs.TimesProofs.LogicSteps.{value_whole}
use Rattle.pam_tables.proofs.times.logic.is_true.Goals as goal

pub loop-item-init : goal.loop-item-init
loop-item-init c = value_whole (meets c.args.fact.now) c.args.text.now
