use Rattle.std.proofs.Common.{◌∙◌, ◌++◌, List, ap, ℕ, codes}
use Rattle.pam_report.specs.Passwd.{without_zeros}
use Rattle.pam_report.specs.inner.Passwd.{users_known}
use Rattle.pam_report.proofs.PasswdSteps.{group_written}
use Rattle.pam_report.proofs.passwd.put_group.Goals as goal

pub returns : goal.returns
returns c =
    let group = c.args.group in
    let users = c.args.users.now.entries in
    let one = c.in_ok-put_field.ensures in
    let two = c.in_ok-put_field-2.ensures ∙ ap (λ (x : List ℕ). x ++ (group.password.now ++ codes ":")) one in
    let three = c.in_ok-put_field-3.ensures ∙ ap (λ (x : List ℕ). x ++ (group.number.now ++ codes ":")) two in
    let of_number = c.users_with.ensures ∙ ap (λ (n : List ℕ). users_known n users) c.without_zeros.ensures in
    let four =
    c.in_ok-extend_from_slice.ensures.items ∙ ap (λ (x : List ℕ). x ++ c.users_with.result.now) three
    ∙ ap (λ (x : List ℕ).
    c.args.text.now.items ++ (group.name.now ++ codes ":") ++ (group.password.now ++ codes ":") ++ (group.number.now ++ codes ":") ++ x) of_number in
    c.in_ok-extend_from_slice-2.ensures.items ∙ ap (λ (x : List ℕ). x ++ group.members.now) four
    ∙ group_written c.args.text.now.items group.name.now group.password.now group.number.now (codes ":")
    (users_known (without_zeros group.number.now) users) group.members.now
