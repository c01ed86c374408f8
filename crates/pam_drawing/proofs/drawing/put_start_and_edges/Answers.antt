use Rattle.std.proofs.Common.{List, ap}
use Rattle.std.specs.List.{flat_map}
use Rattle.pam_codes.proofs.Writing.{all-is, err-front, front-is, front-longer, writes-is, writes-then}
use Rattle.pam_drawing.specs.Drawing.{drawn_nodes, node_edges, start_and_edges, start_text}
use Rattle.pam_graph.specs.declared.node.Node.{Node}
use Rattle.pam_drawing.proofs.drawing.put_start_and_edges.Goals as goal

pub returns-in_err-put_start : goal.returns-in_err-put_start
unfolding start_and_edges
returns-in_err-put_start g c =
    err-front _ c.from_residual.ensures.0
    (front-longer _ (front-is c.in_err-put_start.ensures (ap (start_text c.args.format) c.start.ensures.start)))

pub returns : goal.returns
unfolding start_and_edges
returns g c =
    let edges = ap (λ (nodes : List Node). flat_map (node_edges c.args.format) (drawn_nodes nodes)) c.nodes.ensures.nodes in
    writes-then _ _ _ (all-is c.in_ok-put_start.ensures (ap (start_text c.args.format) c.start.ensures.start))
    (writes-is _ _ _ _ _ _ c.put_all_edges.ensures edges)
