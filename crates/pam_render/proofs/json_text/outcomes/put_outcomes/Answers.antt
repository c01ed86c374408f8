use Rattle.std.proofs.Common.{◌+◌, drop, map, ap}
use Rattle.std.specs.List.{flat_map}
use Rattle.pam_codes.proofs.Writing.{err-front, front-is, front-longer, front-then}
use Rattle.pam_text.proofs.FlatTexts.{flat_map-seen_at}
use Rattle.pam_report.specs.ReplyViews.{outcome_view}
use Rattle.pam_report.specs.declared.report.outcomes.Outcome.{Outcome}
use Rattle.pam_render.specs.json_text.Outcomes.{outcome_json}
use Rattle.pam_render.proofs.json_text.outcomes.put_outcomes.Goals as goal

pub returns-in_err-put_outcome : goal.returns-in_err-put_outcome
returns-in_err-put_outcome g c =
    let outcomes = c.args.outcomes.now in
    let json = outcome_json c.args.modules.now in
    let index = c.loop-outcome.outcome-index in
    let text = ap (λ (o : Outcome). json (outcome_view o)) c.outcome-item.is in
    err-front _ c.from_residual.ensures.0
    (front-is
    (front-longer (flat_map json (map outcome_view (drop (index + 1) outcomes)))
    (front-then c.loop-outcome.invariant (front-is c.in_err-put_outcome.ensures text)))
    (flat_map-seen_at json outcome_view outcomes index _ c.loop-outcome-test.true))
