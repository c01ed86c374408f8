use Rattle.pam_codes.proofs.Writing.{all-then, err-front, front-longer, front-then, writes-then}
use Rattle.pam_drawing.specs.Drawing.{node_label}
use Rattle.pam_drawing.proofs.node.put_node_label.Goals as goal

pub returns-in_err-put_number : goal.returns-in_err-put_number
unfolding node_label
returns-in_err-put_number g c =
    err-front _ c.from_residual.ensures.0
    (front-longer _ (front-longer _ (front-longer _ (front-longer _ c.in_err-put_number.ensures))))

pub returns-in_err-put : goal.returns-in_err-put
unfolding node_label
returns-in_err-put g c =
    err-front _ c.from_residual-in_err-put.ensures.0
    (front-longer _ (front-longer _ (front-longer _ (front-then c.in_ok-put_number.ensures c.in_err-put.ensures))))

pub returns-in_err-put_name : goal.returns-in_err-put_name
unfolding node_label
returns-in_err-put_name g c =
    let first-2 = all-then c.in_ok-put_number.ensures c.in_ok-put.ensures in
    err-front _ c.from_residual-in_err-put_name.ensures.0
    (front-longer _ (front-longer _ (front-then first-2 c.in_err-put_name.ensures)))

pub returns-in_err-put_row_end : goal.returns-in_err-put_row_end
unfolding node_label
returns-in_err-put_row_end g c =
    let first-2 = all-then c.in_ok-put_number.ensures c.in_ok-put.ensures in
    let first-3 = all-then first-2 c.in_ok-put_name.ensures in
    err-front _ c.from_residual-in_err-put_row_end.ensures.0
    (front-longer _ (front-then first-3 c.in_err-put_row_end.ensures))

pub returns : goal.returns
unfolding node_label
returns g c =
    let first-2 = all-then c.in_ok-put_number.ensures c.in_ok-put.ensures in
    let first-3 = all-then first-2 c.in_ok-put_name.ensures in
    let first-4 = all-then first-3 c.in_ok-put_row_end.ensures in
    writes-then _ _ _ first-4 c.put_state.ensures
