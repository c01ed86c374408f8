use Rattle.pam_codes.proofs.Writing.{err-flushes, flushes-last}
use Rattle.pam_render.proofs.text.tables.write_access.Goals as goal

pub returns-in_err-put_access : goal.returns-in_err-put_access
returns-in_err-put_access g c = err-flushes _ c.from_residual.ensures.0 c.in_err-put_access.ensures

pub returns : goal.returns
returns g c = flushes-last _ _ c.in_ok-put_access.ensures c.finish.ensures
