use Rattle.std.proofs.Common.{◌∙◌, ap, sym}
use Rattle.pam_report.specs.Passwd.{user_with}
use Rattle.pam_report.proofs.PasswdSteps.{user_four, user_one, user_three, user_two}
use Rattle.pam_report.proofs.passwd.primary_group.Goals as goal

pub returns-in_err-user : goal.returns-in_err-user
returns-in_err-user c = rw c.from_residual.ensures (sym (user_one c.args.line.now c.in_err-user.ensures.value))

pub returns-in_err-rest : goal.returns-in_err-rest
returns-in_err-rest c =
    rw c.from_residual-in_err-rest.ensures (sym (user_two c.args.line.now _ _ c.in_ok-user.ensures.value c.in_err-rest.ensures.value))

pub returns-in_err-rest-2 : goal.returns-in_err-rest-2
returns-in_err-rest-2 c =
    rw c.from_residual-in_err-rest-2.ensures (sym (user_three c.args.line.now _ _ _ _ c.in_ok-user.ensures.value c.in_ok-rest.ensures.value
    c.in_err-rest-2.ensures.value))

pub returns : goal.returns
returns c =
    c.group_of.ensures ∙ ap (user_with c.in_ok-user.user.now) c.first_field.ensures
    ∙ sym (user_four c.args.line.now _ _ _ _ _ _ c.in_ok-user.ensures.value c.in_ok-rest.ensures.value c.in_ok-rest-2.ensures.value)
