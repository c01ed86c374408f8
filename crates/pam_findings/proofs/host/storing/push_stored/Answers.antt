use Rattle.std.proofs.Common.{rules, ◌≡◌}
use Rattle.pam_conf.specs.declared.rule.Kind.TheVariants.{Password}
use Rattle.pam_findings.specs.host.inner.Looked.{judgement_in}
use Rattle.pam_findings.proofs.HostProofs.Storing.{adds-stored}
use Rattle.pam_findings.proofs.host.storing.push_stored.Goals as goal

pub returns : goal.returns
returns c =
    let is : c.args.kind ≡ Password = search rules in
    adds-stored c.args.kind (judgement_in c.args.of.now) c.args.spots.now.items c.push_refused.new.spots.items c.push_refused-2.new.spots.items
    c.push_refused-3.new.spots.items c.push_refused-4.new.spots.items is c.in_ok-push_refused.ensures
    c.in_ok-push_refused-2.ensures c.in_ok-push_refused-3.ensures c.in_ok-push_refused-4.ensures
