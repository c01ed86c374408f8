use Rattle.pam_codes.proofs.Writing.{all-then, err-front, front-longer, front-then, writes-then}
use Rattle.pam_drawing.specs.Drawing.{node_text}
use Rattle.pam_drawing.proofs.node.put_node.Goals as goal

pub returns-in_err-put_node_id : goal.returns-in_err-put_node_id
unfolding node_text
returns-in_err-put_node_id g c =
    err-front _ c.from_residual.ensures.0
    (front-longer _ (front-longer _ (front-longer _ (front-longer _ c.in_err-put_node_id.ensures))))

pub returns-in_err-put_node_opening : goal.returns-in_err-put_node_opening
unfolding node_text
returns-in_err-put_node_opening g c =
    err-front _ c.from_residual-in_err-put_node_opening.ensures.0
    (front-longer _ (front-longer _ (front-longer _ (front-then c.in_ok-put_node_id.ensures c.in_err-put_node_opening.ensures))))

pub returns-in_err-put_node_label : goal.returns-in_err-put_node_label
unfolding node_text
returns-in_err-put_node_label g c =
    err-front _ c.from_residual-in_err-put_node_label.ensures.0
    (front-longer _ (front-longer _ (front-then (all-then c.in_ok-put_node_id.ensures c.in_ok-put_node_opening.ensures) c.in_err-put_node_label.ensures)))

pub returns-in_err-put_node_closing : goal.returns-in_err-put_node_closing
unfolding node_text
returns-in_err-put_node_closing g c =
    let first-2 = all-then c.in_ok-put_node_id.ensures c.in_ok-put_node_opening.ensures in
    let first-3 = all-then first-2 c.in_ok-put_node_label.ensures in
    err-front _ c.from_residual-in_err-put_node_closing.ensures.0
    (front-longer _ (front-then first-3 c.in_err-put_node_closing.ensures))

pub returns : goal.returns
unfolding node_text
returns g c =
    let first-2 = all-then c.in_ok-put_node_id.ensures c.in_ok-put_node_opening.ensures in
    let first-3 = all-then first-2 c.in_ok-put_node_label.ensures in
    let first-4 = all-then first-3 c.in_ok-put_node_closing.ensures in
    writes-then _ _ _ first-4 c.put_rank.ensures
