use Rattle.std.proofs.Common.{List, map, subst, sym}
use Rattle.pam_conf.specs.Rule.{rule_view}
use Rattle.pam_conf.specs.declared.rule.Rule.{Rule}
use Rattle.pam_findings.specs.host.inner.CutOff.{OfAmong}
use Rattle.pam_findings.specs.host.inner.Table.{Adds}
use Rattle.pam_findings.proofs.HostProofs.CutOff.{file-gone, file-there}
use Rattle.pam_conf.proofs.ServiceSteps.{seen-none, seen-of}
use Rattle.pam_findings.proofs.host.cut_off.push_file.Goals as goal

pub returns-in_default : goal.returns-in_default
returns-in_default c =
    file-gone c.args.rules.now c.args.kinds c.args.file (sym (seen-none _ c.in_ok-found.field-0 _ c.in_ok-found.ensures c.in_default.is))
    c.args.asked.now.items

pub returns : goal.returns
returns c =
    let found = c.in-Some.found in
    let old = c.args.asked.now.items in
    let new = c.push_rules.new.asked.items in
    file-there c.args.rules.now c.args.kinds c.args.file (map rule_view found.items)
    (sym (seen-of _ c.in_ok-found.field-0 found _ c.in_ok-found.ensures c.in-Some.is)) old new
    (subst (λ (l : List Rule). Adds (OfAmong c.args.kinds c.args.file (map rule_view l)) old new) c.deref.ensures.value c.in_ok-push_rules.ensures)
