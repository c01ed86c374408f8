use Rattle.pam_codes.proofs.Writing.{all-then, err-front, front-longer, front-then, writes-then}
use Rattle.pam_drawing.proofs.picture.svg.put_description.Goals as goal
use Rattle.pam_drawing.specs.picture.Picture.{description_text}

pub returns-in_err-put_opening : goal.returns-in_err-put_opening
unfolding description_text
returns-in_err-put_opening g c =
    err-front _ c.from_residual.ensures.0 (front-longer _ (front-longer _ (front-longer _ c.in_err-put_opening.ensures)))

pub returns-in_err-put_sentences : goal.returns-in_err-put_sentences
unfolding description_text
returns-in_err-put_sentences g c =
    err-front _ c.from_residual-in_err-put_sentences.ensures.0
    (front-longer _ (front-longer _ (front-then c.in_ok-put_opening.ensures c.in_err-put_sentences.ensures)))

pub returns-in_err-put_style : goal.returns-in_err-put_style
unfolding description_text
returns-in_err-put_style g c =
    err-front _ c.from_residual-in_err-put_style.ensures.0
    (front-longer _ (front-then (all-then c.in_ok-put_opening.ensures c.in_ok-put_sentences.ensures) c.in_err-put_style.ensures))

pub returns : goal.returns
unfolding description_text
returns g c =
    writes-then _ _ _ (all-then (all-then c.in_ok-put_opening.ensures c.in_ok-put_sentences.ensures) c.in_ok-put_style.ensures) c.put_heading.ensures
