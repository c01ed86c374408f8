use Rattle.std.proofs.Common.{codes}
use Rattle.pam_text.proofs.Writing.{err-front, front-longer, writes-then}
use Rattle.pam_render.proofs.json_lines.value.put_line.Goals as goal

pub returns-in_err-put_object : goal.returns-in_err-put_object
returns-in_err-put_object g c = err-front _ c.from_residual.ensures.0 (front-longer (codes "\n") c.in_err-put_object.ensures)

pub returns : goal.returns
returns g c = writes-then _ _ _ c.in_ok-put_object.ensures c.put.ensures
