use Rattle.std.proofs.Common.{◌∙◌, ap}
use Rattle.std.specs.List.{list_any}
use Rattle.pam_codes.specs.Set.{codes_where}
use Rattle.pam_drawing.proofs.Ends.{both-pass}
use Rattle.pam_drawing.specs.Drawing.{is_end, leads_to}
use Rattle.pam_graph.specs.declared.node.Node.{Node}
use Rattle.pam_graph.specs.declared.node.Target.{Target}
use Rattle.std.proofs.Common.{List}
use Rattle.pam_drawing.proofs.edge.drawn_ends.Goals as goal

pub returns : goal.returns
returns c =
    let graph = c.args.graph.now in
    both-pass (λ code. is_end code graph.start) (λ code. list_any (leads_to code) graph.nodes) _ _ _
    (c.end_of.ensures ∙ ap (λ (t : Target). codes_where (λ code. is_end code t)) c.start.ensures.start)
    (c.ends_of_nodes.ensures ∙ ap (λ (nodes : List Node). codes_where (λ code. list_any (leads_to code) nodes)) c.nodes.ensures.nodes) c.union.ensures
