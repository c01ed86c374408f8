use Rattle.std.proofs.Common.{◌∙◌, Some, ap, sym}
use Rattle.pam_report.specs.Passwd.{user_in}
use Rattle.pam_report.specs.inner.Passwd.{users_known}
use Rattle.pam_report.proofs.PasswdSteps.{user_added}
use Rattle.std.proofs.Common.{◌++◌}
use Rattle.pam_report.proofs.passwd.add_user.Goals as goal

pub returns : goal.returns
returns c = λ n.
    user_added n c.args.users.now.entries c.insert.new.self.entries c.insert-2.new.self.entries c.in-Some.group.number c.new.result
    c.put_field.new.text c.in_ok-known.known c.names_known-names.result.items c.in-Some.group.user.now c.in_ok-known.ensures.old
    c.in_ok-known.ensures.entries c.names_known-names.ensures c.in_ok-put_field.ensures c.in_ok-insert.ensures.entries
    ∙ ap (λ o. users_known n c.args.users.now.entries ++ user_in n o) c.in-Some.ensures
