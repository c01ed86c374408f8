use Rattle.std.proofs.Common.{◌∙◌, sym}
use Rattle.pam_report.proofs.PasswdSteps.{group_five, group_four, group_one, group_three, group_two}
use Rattle.pam_report.proofs.passwd.group_fields.Goals as goal

pub returns-in_err-name : goal.returns-in_err-name
returns-in_err-name c = rw c.from_residual.ensures (sym (group_one c.args.line.now c.in_err-name.ensures.value))

pub returns-in_err-password : goal.returns-in_err-password
returns-in_err-password c =
    rw c.from_residual-in_err-password.ensures (sym (group_two c.args.line.now _ _ c.in_ok-name.ensures.value c.in_err-password.ensures.value))

pub returns-in_err-number : goal.returns-in_err-number
returns-in_err-number c =
    rw c.from_residual-in_err-number.ensures (sym (group_three c.args.line.now _ _ _ _ c.in_ok-name.ensures.value c.in_ok-password.ensures.value
    c.in_err-number.ensures.value))

pub returns-in-Some : goal.returns-in-Some
returns-in-Some c =
    sym (group_five c.args.line.now _ _ _ _ _ _ _ _ c.in_ok-name.ensures.value c.in_ok-password.ensures.value c.in_ok-number.ensures.value
    c.in-Some.ensures.value)

pub returns-in-None : goal.returns-in-None
returns-in-None c =
    c.if_group.ensures
    ∙ sym (group_four c.args.line.now _ _ _ _ _ _ c.in_ok-name.ensures.value c.in_ok-password.ensures.value c.in_ok-number.ensures.value
    c.in-None.ensures.value)
