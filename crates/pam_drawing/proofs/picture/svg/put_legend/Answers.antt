use Rattle.pam_codes.proofs.Writing.{all-then, err-front, front-longer, front-then, writes-then}
use Rattle.pam_drawing.proofs.picture.svg.put_legend.Goals as goal
use Rattle.pam_drawing.specs.picture.Picture.{legend_text}

pub returns-in_err-put_foot : goal.returns-in_err-put_foot
unfolding legend_text
returns-in_err-put_foot g c = err-front _ c.from_residual.ensures.0 (front-longer _ (front-longer _ c.in_err-put_foot.ensures))

pub returns-in_err-put_notes : goal.returns-in_err-put_notes
unfolding legend_text
returns-in_err-put_notes g c =
    err-front _ c.from_residual-in_err-put_notes.ensures.0 (front-longer _ (front-then c.in_ok-put_foot.ensures c.in_err-put_notes.ensures))

pub returns : goal.returns
unfolding legend_text
returns g c = writes-then _ _ _ (all-then c.in_ok-put_foot.ensures c.in_ok-put_notes.ensures) c.put.ensures
