use Rattle.std.proofs.Common.{subst, sym}
use Rattle.pam_findings.specs.host.inner.Alone.{IsAlone, SaysOwnStack}
use Rattle.pam_findings.proofs.HostProofs.Alone.{alone-judged, alone-none}
use Rattle.pam_findings.proofs.host.alone.judge_alone.Goals as goal

pub returns-in_default-clause-is : goal.returns-in_default-clause-is
returns-in_default-clause-is c =
    let rules = c.args.checker.now.rules.now in
    let modules = c.args.checker.now.modules.now in
    subst (IsAlone rules modules) (sym c.nothing.ensures)
    (alone-none rules modules c.args.kind c.args.file
    (subst (SaysOwnStack rules c.args.kind c.args.file) c.in_default.is c.in_ok-stack.ensures))

pub returns-in-Ok-clause-is : goal.returns-in-Ok-clause-is
returns-in-Ok-clause-is c =
    let rules = c.args.checker.now.rules.now in
    let modules = c.args.checker.now.modules.now in
    let mine = subst (SaysOwnStack rules c.args.kind c.args.file) c.in-Some.is c.in_ok-stack.ensures in
    alone-judged rules modules c.args.kind c.args.file c.in-Some.stack mine c.answers-free.result c.answers_if_checks_fail-failing.result
    c.answers-free.ensures c.answers_if_checks_fail-failing.ensures c.lets_nobody_in.result c.lets_anybody_in.result
    c.in-Ok.soundness.lets_nobody_in c.in-Ok.soundness.lets_anybody_in
    c.lets_nobody_in.ensures.yes c.lets_nobody_in.ensures.no c.lets_anybody_in.ensures.yes c.lets_anybody_in.ensures.no
    c.in-Ok.ensures.nobody c.in-Ok.ensures.anybody
