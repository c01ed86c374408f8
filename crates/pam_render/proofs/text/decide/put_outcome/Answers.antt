use Rattle.pam_codes.proofs.Writing.{all-then, err-front, front-longer, front-then, writes-then}
use Rattle.pam_render.specs.text.Decide.{outcome_text}
use Rattle.pam_render.proofs.text.decide.put_outcome.Goals as goal

pub returns-in_err-put_code : goal.returns-in_err-put_code
unfolding outcome_text
returns-in_err-put_code g c = err-front _ c.from_residual.ensures.0 (front-longer _ (front-longer _ c.in_err-put_code.ensures))

pub returns-in_err-put_action : goal.returns-in_err-put_action
unfolding outcome_text
returns-in_err-put_action g c = err-front _ c.from_residual-in_err-put_action.ensures.0
    (front-longer _ (front-then c.in_ok-put_code.ensures c.in_err-put_action.ensures))

pub returns : goal.returns
unfolding outcome_text
returns g c = writes-then _ _ _ (all-then c.in_ok-put_code.ensures c.in_ok-put_action.ensures) c.put_state.ensures
