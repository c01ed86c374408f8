use Rattle.pam_codes.proofs.Writing.{all-then, err-front, front-longer, front-then, writes-then}
use Rattle.pam_drawing.specs.Drawing.{title_text}
use Rattle.pam_drawing.proofs.drawing.put_title.Goals as goal

pub returns-in_err-put_first_lines : goal.returns-in_err-put_first_lines
unfolding title_text
returns-in_err-put_first_lines g c = err-front _ c.from_residual.ensures.0 (front-longer _ (front-longer _ c.in_err-put_first_lines.ensures))

pub returns-in_err-put_label : goal.returns-in_err-put_label
unfolding title_text
returns-in_err-put_label g c =
    err-front _ c.from_residual-in_err-put_label.ensures.0
    (front-longer _ (front-then c.in_ok-put_first_lines.ensures c.in_err-put_label.ensures))

pub returns : goal.returns
unfolding title_text
returns g c = writes-then _ _ _ (all-then c.in_ok-put_first_lines.ensures c.in_ok-put_label.ensures) c.put_next_lines.ensures
