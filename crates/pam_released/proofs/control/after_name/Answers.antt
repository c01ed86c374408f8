use Rattle.std.proofs.Common.{◌∙◌, sym}
use Rattle.pam_released.proofs.ControlSteps.{begins_as}
use Rattle.pam_released.proofs.control.after_name.Goals as goal

pub returns-then-starts_with-clause-value : goal.returns-then-starts_with-clause-value
returns-then-starts_with-clause-value c =
    (begins_as c.args.name.now c.args.text.now ∙ sym c.starts_with.ensures.value ∙ c.if-starts_with.true, c.split_at.ensures.back)

pub returns-else-starts_with-clause-value : goal.returns-else-starts_with-clause-value
returns-else-starts_with-clause-value c = begins_as c.args.name.now c.args.text.now ∙ sym c.starts_with.ensures.value ∙ c.if-starts_with.false
