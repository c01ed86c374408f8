use Rattle.pam_codes.proofs.Writing.{all-then, err-front, front-longer, front-then, writes-then}
use Rattle.pam_drawing.proofs.picture.stop.put_asked.Goals as goal
use Rattle.pam_drawing.specs.picture.Picture.{asked_words}

pub returns-in_err-put_line : goal.returns-in_err-put_line
unfolding asked_words
returns-in_err-put_line g c =
    err-front _ c.from_residual.ensures.0
    (front-longer _ (front-longer _ (front-longer _ c.in_err-put_line.ensures)))

pub returns-in_err-put_escaped : goal.returns-in_err-put_escaped
unfolding asked_words
returns-in_err-put_escaped g c =
    err-front _ c.from_residual-in_err-put_escaped.ensures.0
    (front-longer _ (front-longer _ (front-then c.in_ok-put_line.ensures c.in_err-put_escaped.ensures)))

pub returns-in_err-put : goal.returns-in_err-put
unfolding asked_words
returns-in_err-put g c =
    let first-2 = all-then c.in_ok-put_line.ensures c.in_ok-put_escaped.ensures in
    err-front _ c.from_residual-in_err-put.ensures.0
    (front-longer _ (front-then first-2 c.in_err-put.ensures))

pub returns : goal.returns
unfolding asked_words
returns g c =
    let first-2 = all-then c.in_ok-put_line.ensures c.in_ok-put_escaped.ensures in
    let first-3 = all-then first-2 c.in_ok-put.ensures in
    writes-then _ _ _ first-3 c.put_state.ensures
