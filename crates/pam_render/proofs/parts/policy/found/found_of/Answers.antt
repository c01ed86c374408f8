use Rattle.pam_render.proofs.PartsProofs.PolicyLines.{found-of-all}
use Rattle.pam_render.specs.parts.PolicyView.{host_view}
use Rattle.pam_render.proofs.parts.policy.found.found_of.Goals as goal

pub returns : goal.returns
returns c =
    found-of-all (host_view c.args.host.now) c.loop-rule.found.items c.args.rules.now c.loop-rule.rule-index c.loop-rule-test.false c.loop-rule.invariant
