use Rattle.std.proofs.Common.{map}
use Rattle.pam_render.proofs.PartsProofs.PolicyLines.{found-all}
use Rattle.pam_render.specs.parts.PolicyView.{host_view, rule_view, told_view}
use Rattle.pam_render.proofs.parts.policy.found.push_found.Goals as goal

pub returns : goal.returns
returns c =
    found-all (host_view c.args.host.now) (rule_view c.args.rule) c.loop-finding.found.items (map told_view c.args.found.now.items) _ _
    c.loop-finding.finding-index c.loop-finding-test.false c.deref-finding-items.ensures.value c.in_ok-findings.ensures c.loop-finding.invariant
