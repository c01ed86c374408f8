use Rattle.std.proofs.Common.{◌∙◌, ap}
use Rattle.pam_codes.specs.Set.{codes_where}
use Rattle.pam_drawing.proofs.Ends.{all-pass, none-pass, one-more}
use Rattle.pam_drawing.specs.Drawing.{leads_to}
use Rattle.pam_graph.specs.declared.node.Node.{Node}
use Rattle.pam_drawing.proofs.edge.ends_of_nodes.Goals as goal

pub loop-node-init : goal.loop-node-init
loop-node-init c = none-pass _ c.empty-ends.ensures

pub loop-node-preserved : goal.loop-node-preserved
loop-node-preserved c =
    one-more leads_to c.args.nodes.now c.loop-node.node-index _ _ _ _ c.loop-node-test.true c.loop-node.invariant
    (c.ends_of_node.ensures ∙ ap (λ (node : Node). codes_where (λ code. leads_to code node)) c.node-item.is) c.union-ends.ensures

pub returns : goal.returns
returns c = all-pass leads_to c.args.nodes.now c.loop-node.node-index _ c.loop-node-test.false c.loop-node.invariant
