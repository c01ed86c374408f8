use Rattle.std.proofs.Common.{◌+◌, drop, map, ap}
use Rattle.std.specs.List.{flat_map}
use Rattle.pam_codes.proofs.Writing.{err-front, front-is, front-longer, front-then}
use Rattle.pam_text.proofs.FlatTexts.{flat_map-seen_at}
use Rattle.pam_page.specs.Page.{step_text}
use Rattle.pam_paths.specs.Steps.{step_seen}
use Rattle.pam_paths.specs.declared.path.PathStep.{PathStep}
use Rattle.pam_page.proofs.written.put_steps.Goals as goal

pub returns-in_err-put_step : goal.returns-in_err-put_step
returns-in_err-put_step g c =
    let steps = c.args.steps.now in
    let index = c.loop-step.step-index in
    let same = ap (λ (step : PathStep). step_text (step_seen step)) c.step-item.is in
    let rest = flat_map step_text (map step_seen (drop (index + 1) steps)) in
    err-front _ c.from_residual.ensures.0
    (front-is (front-longer rest (front-then c.loop-step.invariant (front-is c.in_err-put_step.ensures same)))
    (flat_map-seen_at step_text step_seen steps index _ c.loop-step-test.true))
