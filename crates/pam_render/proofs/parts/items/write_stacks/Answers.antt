use Rattle.pam_text.proofs.Writing.{err-flushes, flushes-last}
use Rattle.pam_render.proofs.parts.items.write_stacks.Goals as goal

pub returns-in_err-put_stacks : goal.returns-in_err-put_stacks
returns-in_err-put_stacks g c = err-flushes _ c.from_residual.ensures.0 c.in_err-put_stacks.ensures

pub returns : goal.returns
returns g c = flushes-last _ _ c.in_ok-put_stacks.ensures c.finish.ensures
