use Rattle.std.proofs.Common.{◌+◌, ◌∙◌, ℕ, List, ap, arith, take}
use Rattle.pam_report.specs.Passwd.{lines_of, lines_with, users_of, with_primary_members}
use Rattle.pam_report.proofs.PasswdSteps.{cut_short, last_done, line_done}
use Rattle.pam_text.specs.declared.source.TheConstants.{MAX_FILE_BYTES}
use Rattle.pam_report.proofs.passwd.with_primary_members.Goals as goal

pub loop-line-preserved : goal.loop-line-preserved
loop-line-preserved c =
    line_done _ (λ n. users_of n (lines_of c.args.passwd.now)) _ _ _ c.loop-line.rest.now c.in-Some.line.now c.in-Some.after.now _
    c.in_ok-users.ensures c.in-Some.ensures.value c.in_ok-put_line.ensures c.in_ok-push.ensures.items c.loop-line.invariant

pub returns-then-len-gt-MAX_FILE_BYTES : goal.returns-then-len-gt-MAX_FILE_BYTES
unfolding with_primary_members
returns-then-len-gt-MAX_FILE_BYTES c =
    let others : List ℕ → List ℕ = λ n. users_of n (lines_of c.args.passwd.now) in
    cut_short (MAX_FILE_BYTES + 1) c.push.new.self.items (lines_with others (lines_of c.in-Some.after.now)) (lines_with others (lines_of c.args.groups.now)) _
    (omega arith)
    (line_done _ others _ _ _ c.loop-line.rest.now c.in-Some.line.now c.in-Some.after.now _ c.in_ok-users.ensures c.in-Some.ensures.value
    c.in_ok-put_line.ensures c.in_ok-push.ensures.items c.loop-line.invariant) c.cut_off.ensures

pub returns : goal.returns
unfolding with_primary_members
returns c =
    c.cut_off-2.ensures
    ∙ ap (take (MAX_FILE_BYTES + 1))
    (last_done _ (λ n. users_of n (lines_of c.args.passwd.now)) _ _ c.loop-line.rest.now _ c.in_ok-users.ensures c.in_default.ensures.value
    c.in_ok-put_line-2.ensures c.loop-line.invariant)
