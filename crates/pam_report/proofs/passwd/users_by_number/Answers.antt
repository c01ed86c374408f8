use Rattle.std.proofs.Common.{ap, ◌++◌, ◌∙◌, append_assoc, sym}
use Rattle.pam_report.specs.Passwd.{lines_of, users_of, user_at, user_in}
use Rattle.pam_report.specs.inner.Passwd.{users_known}
use Rattle.pam_report.proofs.PasswdSteps.{users_first, users_last}
use Rattle.pam_report.proofs.passwd.users_by_number.Goals as goal

pub loop-line-init : goal.loop-line-init
loop-line-init c = λ n. ap (λ users. users_known n users ++ users_of n (lines_of c.args.passwd.now)) c.new-users.ensures.empty

pub returns : goal.returns
returns c = λ n.
    c.in_ok-add_user-2.ensures n
    ∙ ap (λ names. users_known n c.loop-line.users.entries ++ names) (sym (users_last n c.loop-line.rest.now c.in_default.ensures.value))
    ∙ c.loop-line.invariant n

pub loop-line-preserved : goal.loop-line-preserved
loop-line-preserved c = λ n.
    let known = users_known n c.loop-line.users.entries in
    let left = users_of n (lines_of c.in-Some.after.now) in
    ap (λ names. names ++ left) (c.in_ok-add_user.ensures n) ∙ append_assoc known (user_in n (user_at c.in-Some.line.now)) left
    ∙ ap (λ names. known ++ names) (sym (users_first n c.loop-line.rest.now c.in-Some.line.now c.in-Some.after.now c.in-Some.ensures.value))
    ∙ c.loop-line.invariant n
