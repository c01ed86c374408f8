use Rattle.std.proofs.Common.{◌+◌, drop, map, ap}
use Rattle.pam_codes.proofs.Writing.{err-front, front-is, front-longer, front-then}
use Rattle.pam_text.proofs.FlatTexts.{flat_map-seen_at}
use Rattle.pam_render.specs.json_text.Decide.{step_json, steps_json}
use Rattle.pam_report.specs.ReplyViews.{asked_view}
use Rattle.pam_report.specs.declared.report.trace.AskedModule.{AskedModule}
use Rattle.pam_render.proofs.json_text.decide.put_steps.Goals as goal

pub returns-in_err-put_step : goal.returns-in_err-put_step
returns-in_err-put_step g c =
    let asked = c.args.asked.now in
    let index = c.loop-module.module-index in
    let text = ap (λ (m : AskedModule). step_json (asked_view m)) c.module-item.is in
    err-front _ c.from_residual.ensures.0
    (front-is
    (front-longer (steps_json (map asked_view (drop (index + 1) asked))) (front-then c.loop-module.invariant (front-is c.in_err-put_step.ensures text)))
    (flat_map-seen_at step_json asked_view asked index _ c.loop-module-test.true))
