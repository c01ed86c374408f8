use Rattle.std.proofs.Common.{◌+◌, drop, map, ap}
use Rattle.pam_codes.proofs.Writing.{err-front, front-is, front-longer, front-then}
use Rattle.pam_render.proofs.TextProofs.ShowTexts.{flat_map-viewed_at}
use Rattle.pam_render.specs.text.Decide.{asked_text, trace_text}
use Rattle.pam_report.specs.ReplyViews.{asked_view}
use Rattle.pam_report.specs.declared.report.trace.AskedModule.{AskedModule}
use Rattle.pam_render.proofs.text.decide.put_trace.Goals as goal

pub returns-in_err-put_asked : goal.returns-in_err-put_asked
returns-in_err-put_asked g c =
    let asked = c.args.asked.now in
    let index = c.loop-module.module-index in
    let text = ap (λ (m : AskedModule). asked_text (asked_view m)) c.module-item.is in
    err-front _ c.from_residual.ensures.0
    (front-is
    (front-longer (trace_text (map asked_view (drop (index + 1) asked))) (front-then c.loop-module.invariant (front-is c.in_err-put_asked.ensures text)))
    (flat_map-viewed_at asked_text asked_view asked index _ c.loop-module-test.true))
