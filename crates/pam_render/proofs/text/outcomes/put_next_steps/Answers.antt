use Rattle.std.proofs.Common.{◌+◌, drop, map, ap}
use Rattle.std.specs.List.{flat_map}
use Rattle.pam_codes.proofs.Writing.{err-front, front-is, front-longer, front-then}
use Rattle.pam_paths.specs.Steps.{step_seen}
use Rattle.pam_paths.specs.declared.path.PathStep.{PathStep}
use Rattle.pam_render.proofs.TextProofs.ShowTexts.{flat_map-viewed_at}
use Rattle.pam_render.specs.text.Outcomes.{next_step}
use Rattle.pam_render.proofs.text.outcomes.put_next_steps.Goals as goal

pub returns-in_err-put_next_step : goal.returns-in_err-put_next_step
returns-in_err-put_next_step g c =
    let steps = c.args.steps.now in
    let written = next_step c.args.modules.now in
    let index = c.loop-step.step-index in
    let text = ap (λ (s : PathStep). written (step_seen s)) c.step-item.is in
    err-front _ c.from_residual.ensures.0
    (front-is
    (front-longer (flat_map written (map step_seen (drop (index + 1) steps))) (front-then c.loop-step.invariant (front-is c.in_err-put_next_step.ensures text)))
    (flat_map-viewed_at written step_seen steps index _ c.loop-step-test.true))
