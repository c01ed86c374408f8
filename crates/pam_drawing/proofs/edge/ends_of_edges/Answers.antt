use Rattle.std.proofs.Common.{◌∙◌, ap}
use Rattle.pam_codes.specs.Set.{codes_where}
use Rattle.pam_drawing.proofs.Ends.{all-pass, none-pass, one-more}
use Rattle.pam_drawing.specs.Drawing.{is_end}
use Rattle.pam_graph.specs.declared.node.Edge.{Edge}
use Rattle.pam_drawing.proofs.edge.ends_of_edges.Goals as goal

pub loop-edge-init : goal.loop-edge-init
loop-edge-init c = none-pass _ c.empty-ends.ensures

pub loop-edge-preserved : goal.loop-edge-preserved
loop-edge-preserved c =
    one-more (λ code (edge : Edge). is_end code edge.target) c.args.edges.now c.loop-edge.edge-index _ _ _ _ c.loop-edge-test.true c.loop-edge.invariant
    (c.end_of.ensures ∙ ap (λ (edge : Edge). codes_where (λ code. is_end code edge.target)) c.edge-item.is) c.union-ends.ensures

pub returns : goal.returns
returns c =
    all-pass (λ code (edge : Edge). is_end code edge.target) c.args.edges.now c.loop-edge.edge-index _ c.loop-edge-test.false c.loop-edge.invariant
