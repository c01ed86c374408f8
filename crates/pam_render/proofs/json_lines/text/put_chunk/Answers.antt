use Rattle.pam_text.proofs.Writing.{err-front, front-longer, writes-then}
use Rattle.pam_render.proofs.json_lines.text.put_chunk.Goals as goal

pub returns-in_err-put_escaped : goal.returns-in_err-put_escaped
returns-in_err-put_escaped g c = err-front _ c.from_residual.ensures.0 (front-longer _ c.in_err-put_escaped.ensures)

pub returns : goal.returns
returns g c = writes-then _ _ _ c.in_ok-put_escaped.ensures c.put_invalid.ensures
