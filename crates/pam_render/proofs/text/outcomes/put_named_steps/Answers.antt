use Rattle.std.specs.Prelude.{map}
use Rattle.std.specs.List.{flat_map}
use Rattle.pam_codes.proofs.Writing.{all-then, err-front, front-is, front-longer, front-then, writes-is, writes-then}
use Rattle.pam_paths.specs.Steps.{step_seen}
use Rattle.pam_render.proofs.TextProofs.OutcomeTexts.{named_steps-is}
use Rattle.pam_render.specs.text.Outcomes.{named_step, next_step}
use Rattle.pam_render.proofs.text.outcomes.put_named_steps.Goals as goal

pub returns-in_err-put : goal.returns-in_err-put
returns-in_err-put g c =
    let items = c.args.modules.now in
    err-front _ c.from_residual.ensures.0
    (front-is
    (front-longer (flat_map (next_step items) (map step_seen c.in-Some.others.now))
    (front-longer (named_step items (step_seen c.in-Some.first.now)) c.in_err-put.ensures))
    (named_steps-is items _ _ _ c.in-Some.ensures.cases.0))

pub returns-in_err-put_named_step : goal.returns-in_err-put_named_step
returns-in_err-put_named_step g c =
    let items = c.args.modules.now in
    err-front _ c.from_residual-in_err-put_named_step.ensures.0
    (front-is
    (front-longer (flat_map (next_step items) (map step_seen c.in-Some.others.now)) (front-then c.in_ok-put.ensures c.in_err-put_named_step.ensures))
    (named_steps-is items _ _ _ c.in-Some.ensures.cases.0))

pub returns : goal.returns
returns g c =
    writes-is _ _ _ _ _ _
    (writes-then _ _ _ (all-then c.in_ok-put.ensures c.in_ok-put_named_step.ensures) c.put_next_steps.ensures)
    (named_steps-is c.args.modules.now _ _ _ c.in-Some.ensures.cases.0)
