use Rattle.pam_codes.proofs.Writing.{all-is, all-then, err-front, front-is, front-longer, front-then, writes-is, writes-then}
use Rattle.pam_graph.specs.declared.node.Node.{Node}
use Rattle.pam_drawing.proofs.picture.svg.put_shapes.Goals as goal
use Rattle.pam_drawing.specs.picture.Picture.{edges_text, nodes_text, shapes_text, start_text}
use Rattle.std.proofs.Common.{List, ap}

pub returns-in_err-put_edges : goal.returns-in_err-put_edges
unfolding shapes_text
returns-in_err-put_edges g c =
    let sheet = c.args.sheet.now in
    let edges = ap (λ (nodes : List Node). edges_text sheet.stack.now nodes sheet.layout.now) c.requires in
    err-front _ c.from_residual.ensures.0 (front-longer _ (front-longer _ (front-longer _ (front-is c.in_err-put_edges.ensures edges))))

pub returns-in_err-put_nodes : goal.returns-in_err-put_nodes
unfolding shapes_text
returns-in_err-put_nodes g c =
    let sheet = c.args.sheet.now in
    let edges = ap (λ (nodes : List Node). edges_text sheet.stack.now nodes sheet.layout.now) c.requires in
    let shapes = ap (λ (nodes : List Node). nodes_text sheet.stack.now nodes sheet.layout.now) c.requires in
    err-front _ c.from_residual-in_err-put_nodes.ensures.0
    (front-longer _ (front-longer _ (front-then (all-is c.in_ok-put_edges.ensures edges) (front-is c.in_err-put_nodes.ensures shapes))))

pub returns-in_err-put_ends : goal.returns-in_err-put_ends
unfolding shapes_text
returns-in_err-put_ends g c =
    let sheet = c.args.sheet.now in
    let edges = ap (λ (nodes : List Node). edges_text sheet.stack.now nodes sheet.layout.now) c.requires in
    let shapes = ap (λ (nodes : List Node). nodes_text sheet.stack.now nodes sheet.layout.now) c.requires in
    err-front _ c.from_residual-in_err-put_ends.ensures.0
    (front-longer _ (front-then (all-then (all-is c.in_ok-put_edges.ensures edges) (all-is c.in_ok-put_nodes.ensures shapes)) c.in_err-put_ends.ensures))

pub returns : goal.returns
unfolding shapes_text
returns g c =
    let sheet = c.args.sheet.now in
    let edges = ap (λ (nodes : List Node). edges_text sheet.stack.now nodes sheet.layout.now) c.requires in
    let shapes = ap (λ (nodes : List Node). nodes_text sheet.stack.now nodes sheet.layout.now) c.requires in
    let start = ap (start_text sheet.layout.now) c.start.ensures.start in
    writes-then _ _ _
    (all-then (all-then (all-is c.in_ok-put_edges.ensures edges) (all-is c.in_ok-put_nodes.ensures shapes)) c.in_ok-put_ends.ensures)
    (writes-is _ _ _ _ _ _ c.put_start.ensures start)
