use Rattle.pam_codes.proofs.Writing.{err-front, front-longer, writes-then}
use Rattle.pam_render.proofs.text.released.put_followed.Goals as goal

pub returns-in_err-put : goal.returns-in_err-put
returns-in_err-put g c = err-front _ c.from_residual.ensures.0 (front-longer _ c.in_err-put.ensures)

pub returns : goal.returns
returns g c = writes-then _ _ _ c.in_ok-put.ensures c.put_shown.ensures
