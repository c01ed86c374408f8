use Rattle.pam_codes.proofs.Writing.{err-flushes, flushes-last}
use Rattle.pam_render.proofs.text.released.write_released.Goals as goal

pub returns-in_err-put_each : goal.returns-in_err-put_each
returns-in_err-put_each g c = err-flushes _ c.from_residual.ensures.0 c.in_err-put_each.ensures

pub returns : goal.returns
returns g c = flushes-last _ _ c.in_ok-put_each.ensures c.finish.ensures
