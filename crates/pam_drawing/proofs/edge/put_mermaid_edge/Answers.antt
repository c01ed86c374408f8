use Rattle.pam_codes.proofs.Writing.{all-then, err-front, front-longer, front-then, writes-then}
use Rattle.pam_drawing.specs.Drawing.{mermaid_edge}
use Rattle.pam_drawing.proofs.edge.put_mermaid_edge.Goals as goal

pub returns-in_err-put_node_id : goal.returns-in_err-put_node_id
unfolding mermaid_edge
returns-in_err-put_node_id g c =
    err-front _ c.from_residual.ensures.0
    (front-longer _ (front-longer _ (front-longer _ (front-longer _ (front-longer _ c.in_err-put_node_id.ensures)))))

pub returns-in_err-put : goal.returns-in_err-put
unfolding mermaid_edge
returns-in_err-put g c =
    err-front _ c.from_residual-in_err-put.ensures.0
    (front-longer _ (front-longer _ (front-longer _ (front-longer _ (front-then c.in_ok-put_node_id.ensures c.in_err-put.ensures)))))

pub returns-in_err-put_class : goal.returns-in_err-put_class
unfolding mermaid_edge
returns-in_err-put_class g c =
    let first-2 = all-then c.in_ok-put_node_id.ensures c.in_ok-put.ensures in
    err-front _ c.from_residual-in_err-put_class.ensures.0
    (front-longer _ (front-longer _ (front-longer _ (front-then first-2 c.in_err-put_class.ensures))))

pub returns-in_err-put-2 : goal.returns-in_err-put-2
unfolding mermaid_edge
returns-in_err-put-2 g c =
    let first-2 = all-then c.in_ok-put_node_id.ensures c.in_ok-put.ensures in
    let first-3 = all-then first-2 c.in_ok-put_class.ensures in
    err-front _ c.from_residual-in_err-put-2.ensures.0
    (front-longer _ (front-longer _ (front-then first-3 c.in_err-put-2.ensures)))

pub returns-in_err-put_target : goal.returns-in_err-put_target
unfolding mermaid_edge
returns-in_err-put_target g c =
    let first-2 = all-then c.in_ok-put_node_id.ensures c.in_ok-put.ensures in
    let first-3 = all-then first-2 c.in_ok-put_class.ensures in
    let first-4 = all-then first-3 c.in_ok-put-2.ensures in
    err-front _ c.from_residual-in_err-put_target.ensures.0
    (front-longer _ (front-then first-4 c.in_err-put_target.ensures))

pub returns : goal.returns
unfolding mermaid_edge
returns g c =
    let first-2 = all-then c.in_ok-put_node_id.ensures c.in_ok-put.ensures in
    let first-3 = all-then first-2 c.in_ok-put_class.ensures in
    let first-4 = all-then first-3 c.in_ok-put-2.ensures in
    let first-5 = all-then first-4 c.in_ok-put_target.ensures in
    writes-then _ _ _ first-5 c.put-3.ensures
