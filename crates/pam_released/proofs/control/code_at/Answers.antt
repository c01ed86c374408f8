use Rattle.pam_released.proofs.ControlSteps.{first_codes, not_here}
use Rattle.pam_released.proofs.control.code_at.Goals as goal

pub loop-number-init : goal.loop-number-init
loop-number-init c = first_codes _

pub loop-number-preserved : goal.loop-number-preserved
loop-number-preserved c = not_here c.args.text.now c.loop-number.number _ c.loop-number-test.true c.in_default.ensures.value c.loop-number.invariant
