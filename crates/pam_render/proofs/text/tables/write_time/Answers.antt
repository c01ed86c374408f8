use Rattle.pam_codes.proofs.Writing.{err-flushes, flushes-last}
use Rattle.pam_render.proofs.text.tables.write_time.Goals as goal

pub returns-in_err-put_time : goal.returns-in_err-put_time
returns-in_err-put_time g c = err-flushes _ c.from_residual.ensures.0 c.in_err-put_time.ensures

pub returns : goal.returns
returns g c = flushes-last _ _ c.in_ok-put_time.ensures c.finish.ensures
