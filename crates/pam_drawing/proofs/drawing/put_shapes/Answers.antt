use Rattle.std.proofs.Common.{List, ap}
use Rattle.std.specs.List.{flat_map}
use Rattle.pam_codes.proofs.Writing.{all-is, all-then, err-front, front-is, front-longer, front-then, writes-then}
use Rattle.pam_drawing.specs.Drawing.{drawn_nodes, node_text, shapes_text}
use Rattle.pam_graph.specs.declared.node.Node.{Node}
use Rattle.pam_drawing.proofs.drawing.put_shapes.Goals as goal

pub returns-in_err-put_columns : goal.returns-in_err-put_columns
unfolding shapes_text
returns-in_err-put_columns g c = err-front _ c.from_residual.ensures.0 (front-longer _ (front-longer _ c.in_err-put_columns.ensures))

pub returns-in_err-put_nodes : goal.returns-in_err-put_nodes
unfolding shapes_text
returns-in_err-put_nodes g c =
    let nodes = ap (λ (nodes : List Node). flat_map (node_text c.args.format c.args.stack.now) (drawn_nodes nodes)) c.nodes.ensures.nodes in
    err-front _ c.from_residual-in_err-put_nodes.ensures.0
    (front-longer _ (front-then c.in_ok-put_columns.ensures (front-is c.in_err-put_nodes.ensures nodes)))

pub returns : goal.returns
unfolding shapes_text
returns g c =
    let nodes = ap (λ (nodes : List Node). flat_map (node_text c.args.format c.args.stack.now) (drawn_nodes nodes)) c.nodes.ensures.nodes in
    writes-then _ _ _ (all-then c.in_ok-put_columns.ensures (all-is c.in_ok-put_nodes.ensures nodes)) c.put_ends.ensures
