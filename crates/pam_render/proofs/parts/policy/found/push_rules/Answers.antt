use Rattle.std.proofs.Common.{map}
use Rattle.std.proofs.lemmas.Slice.Zip.{either_empty_from_Zip}
use Rattle.pam_render.proofs.PartsProofs.PolicyLines.{rules-all}
use Rattle.pam_render.specs.parts.PolicyView.{rule_view}
use Rattle.pam_render.proofs.parts.policy.found.push_rules.Goals as goal

pub returns : goal.returns
returns c =
    rules-all c.args.policy.now.name.now (map rule_view c.loop-rule.told.items) _ _ _
    (either_empty_from_Zip c.loop-rule.rule-iterator c.next.new.self c.next.result c.in-None.is c.next.ensures.steps) c.loop-rule.invariant
