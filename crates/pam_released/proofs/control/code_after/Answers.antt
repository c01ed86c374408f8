use Rattle.pam_released.proofs.ControlSteps.{always_code, code_is, code_missed}
use Rattle.pam_released.proofs.control.code_after.Goals as goal

pub returns-in_default-clause-value : goal.returns-in_default-clause-value
returns-in_default-clause-value c = absurd (always_code c.args.number c.requires c.in_default.ensures)

pub returns-in_default-after_name-clause-value : goal.returns-in_default-after_name-clause-value
returns-in_default-after_name-clause-value c =
    code_missed c.args.text.now c.name.result.now c.as_bytes.result.now c.args.number c.in-Some.code c.requires c.in-Some.ensures c.name.ensures
    c.as_bytes.ensures.value c.in_default-after_name.ensures.value

pub returns-clause-value : goal.returns-clause-value
returns-clause-value c =
    code_is c.args.text.now c.in-Some-after_name.rest.now c.name.result.now c.as_bytes.result.now c.args.number c.in-Some.code c.requires
    c.in-Some.ensures c.name.ensures c.as_bytes.ensures.value c.in-Some-after_name.ensures.value.0 c.in-Some-after_name.ensures.value.1
