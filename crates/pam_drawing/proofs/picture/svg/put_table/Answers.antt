use Rattle.pam_codes.proofs.Writing.{all-then, err-front, front-longer, front-then, writes-then}
use Rattle.pam_drawing.proofs.picture.svg.put_table.Goals as goal
use Rattle.pam_drawing.specs.picture.Picture.{table_text}

pub returns-in_err-put_lanes : goal.returns-in_err-put_lanes
unfolding table_text
returns-in_err-put_lanes g c = err-front _ c.from_residual.ensures.0 (front-longer _ (front-longer _ c.in_err-put_lanes.ensures))

pub returns-in_err-put_columns : goal.returns-in_err-put_columns
unfolding table_text
returns-in_err-put_columns g c =
    err-front _ c.from_residual-in_err-put_columns.ensures.0 (front-longer _ (front-then c.in_ok-put_lanes.ensures c.in_err-put_columns.ensures))

pub returns : goal.returns
unfolding table_text
returns g c = writes-then _ _ _ (all-then c.in_ok-put_lanes.ensures c.in_ok-put_columns.ensures) c.put_brackets.ensures
