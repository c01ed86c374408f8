use Rattle.pam_codes.proofs.Writing.{err-front, front-longer, writes-then}
use Rattle.pam_render.specs.text.Decide.{path_text}
use Rattle.pam_render.proofs.text.decide.put_path.Goals as goal

pub returns-in_err-put_line : goal.returns-in_err-put_line
unfolding path_text
returns-in_err-put_line g c = err-front _ c.from_residual.ensures.0 (front-longer _ c.in_err-put_line.ensures)

pub returns : goal.returns
unfolding path_text
returns g c = writes-then _ _ _ c.in_ok-put_line.ensures c.put_word.ensures
