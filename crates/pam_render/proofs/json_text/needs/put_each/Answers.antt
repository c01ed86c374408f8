use Rattle.std.proofs.Common.{◌+◌, drop, map, ap}
use Rattle.std.specs.List.{flat_map}
use Rattle.pam_codes.proofs.Writing.{err-front, front-is, front-longer, front-then}
use Rattle.pam_policy.specs.declared.needs.suggestion.Suggestion.{Suggestion}
use Rattle.pam_policy.specs.needs.Suggestions.{suggestion_view}
use Rattle.pam_report.specs.ReplyViews.{needs_view}
use Rattle.pam_text.proofs.FlatTexts.{flat_map-seen_at}
use Rattle.pam_render.specs.json_text.Needs.{rule_json}
use Rattle.pam_render.proofs.json_text.needs.put_each.Goals as goal

pub returns-in_err-put_rule : goal.returns-in_err-put_rule
returns-in_err-put_rule g c =
    let rules = c.args.rules.now in
    let line = rule_json (needs_view c.args.reply.now) in
    let index = c.loop-rule.rule-index in
    let text = ap (λ (rule : Suggestion). line (suggestion_view rule)) c.rule-item.is in
    err-front _ c.from_residual.ensures.0
    (front-is
    (front-longer (flat_map line (map suggestion_view (drop (index + 1) rules)))
    (front-then c.loop-rule.invariant (front-is c.in_err-put_rule.ensures text)))
    (flat_map-seen_at line suggestion_view rules index _ c.loop-rule-test.true))
