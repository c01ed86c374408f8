use Rattle.std.proofs.Common.{◌∙◌, ◌+◌, ap, drop, sym}
use Rattle.std.specs.List.{flat_map}
use Rattle.pam_text.proofs.Writing.{all-is, err-front, front-is, front-longer, front-then}
use Rattle.pam_text.proofs.FlatTexts.{flat_map-at, flat_map-seen}
use Rattle.pam_render.specs.declared.parts.policy.told.ToldRule.{ToldRule}
use Rattle.pam_render.specs.parts.Policy as spec
use Rattle.pam_render.specs.parts.PolicyView.{rule_view}
use Rattle.pam_render.proofs.SentencesProofs.PolicySentences.{seen-all}
use Rattle.pam_render.proofs.parts.policy.walk.put_rules.Goals as goal

pub returns-in_err-put_line : goal.returns-in_err-put_line
returns-in_err-put_line g c =
    let rules = c.args.rules.now in
    let line = λ (rule : spec.ToldRule). g.L.PolicyLines.line (spec.Judged rule) in
    let index = c.loop-rule.rule-index in
    let failed = front-is c.in_err-put_line.ensures (ap (λ (rule : ToldRule). line (rule_view rule)) c.rule-item.is) in
    err-front _ c.from_residual.ensures.0
    (front-is
    (front-longer (flat_map (λ (rule : ToldRule). line (rule_view rule)) (drop (index + 1) rules))
    (front-then c.loop-rule.invariant failed))
    (flat_map-at (λ (rule : ToldRule). line (rule_view rule)) rules index _ c.loop-rule-test.true ∙ sym (flat_map-seen line rule_view rules)))

pub returns : goal.returns
returns g c =
    let line = λ (rule : spec.ToldRule). g.L.PolicyLines.line (spec.Judged rule) in
    all-is c.loop-rule.invariant (seen-all line rule_view c.args.rules.now c.loop-rule.rule-index c.loop-rule-test.false)
