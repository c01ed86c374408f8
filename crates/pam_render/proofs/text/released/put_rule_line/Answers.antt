use Rattle.pam_codes.proofs.Writing.{all-then, err-front, front-longer, front-then, writes-then}
use Rattle.pam_render.specs.text.Released.{rule_line}
use Rattle.pam_render.proofs.text.released.put_rule_line.Goals as goal

pub returns-in_err-put_reading : goal.returns-in_err-put_reading
unfolding rule_line
returns-in_err-put_reading g c =
    err-front _ c.from_residual-in_err-put_reading.ensures.0 (front-longer _ (front-then c.in_ok-put_line.ensures c.in_err-put_reading.ensures))

pub returns : goal.returns
unfolding rule_line
returns g c = writes-then _ _ _ (all-then c.in_ok-put_line.ensures c.in_ok-put_reading.ensures) c.put.ensures
