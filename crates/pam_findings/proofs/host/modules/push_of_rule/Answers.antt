use Rattle.std.proofs.Common.{List, Option, subst, ℕ}
use Rattle.pam_conf.specs.ItemsOf.{module_text}
use Rattle.pam_facts.specs.Rows.{Row}
use Rattle.pam_findings.specs.host.inner.Table.{Adds}
use Rattle.pam_findings.specs.host.inner.WrongArguments.{OfArguments}
use Rattle.pam_findings.proofs.HostProofs.Ruled.{adds-of-rule}
use Rattle.pam_findings.proofs.HostProofs.Verdicted.{says}
use Rattle.pam_findings.proofs.host.modules.push_of_rule.Goals as goal

pub returns : goal.returns
returns c =
    let rule = module_text c.args.module.now in
    adds-of-rule c.args.modules.now c.args.service.now c.args.kind rule
    c.args.spots.now.items c.push_if.new.spots.items c.push_if-2.new.spots.items c.push_if-3.new.spots.items c.push_if-4.new.spots.items
    c.push_if-5.new.spots.items c.push_arguments.new.spots.items c.push_if-6.new.spots.items
    c.is_other-is_other.result c.is_missing-missing.result c.lacks_function-lacks_function.result c.caller_is_root-caller_is_root.result
    c.is_daemon_service-is_daemon.result c.lacks_separator-lacks_separator.result c.is_unknown-is_unknown.result
    c.is_other-is_other.ensures c.is_missing-missing.ensures c.lacks_function-lacks_function.ensures c.caller_is_root-caller_is_root.ensures
    c.is_daemon_service-is_daemon.ensures c.lacks_separator-lacks_separator.ensures
    (says c.is_unknown-is_unknown.result c.is_unknown-is_unknown.ensures.yes c.is_unknown-is_unknown.ensures.no)
    c.in_ok-push_if.ensures c.in_ok-push_if-2.ensures c.in_ok-push_if-3.ensures c.in_ok-push_if-4.ensures
    c.in_ok-push_if-5.ensures
    (subst (λ (rows : List Row). Adds (OfArguments rows c.args.modules.now.files c.args.kind rule) c.push_if-5.new.spots.items c.push_arguments.new.spots.items)
    c.facts.ensures
    (subst (λ (files : Option (List (List ℕ))). Adds (OfArguments c.facts.result.now files c.args.kind rule) c.push_if-5.new.spots.items
    c.push_arguments.new.spots.items) c.files.ensures c.in_ok-push_arguments.ensures))
    c.in_ok-push_if-6.ensures
