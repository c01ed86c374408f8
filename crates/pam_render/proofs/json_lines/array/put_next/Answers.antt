use Rattle.pam_text.proofs.Writing.{err-front, front-longer, writes-then}
use Rattle.pam_render.proofs.json_lines.array.put_next.Goals as goal

pub returns-in_err-put_comma : goal.returns-in_err-put_comma
returns-in_err-put_comma g c = err-front _ c.from_residual.ensures.0 (front-longer _ c.in_err-put_comma.ensures)

pub returns : goal.returns
returns g c = writes-then _ _ _ c.in_ok-put_comma.ensures c.put_element.ensures
