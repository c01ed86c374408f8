use Rattle.std.proofs.Common.{◌+◌, drop, ap, sym}
use Rattle.std.specs.List.{flat_map}
use Rattle.pam_codes.proofs.Writing.{all-is, all-then, err-front, front-is, front-longer, front-then}
use Rattle.pam_drawing.specs.Drawing.{drawn_nodes, node_text}
use Rattle.pam_drawing.proofs.Indices.{indexed-all, indexed-at, indexed-push}
use Rattle.pam_graph.specs.declared.node.Node.{Node}
use Rattle.pam_drawing.proofs.node.put_nodes.Goals as goal

pub returns-in_err-put_node : goal.returns-in_err-put_node
returns-in_err-put_node g c =
    let text = node_text c.args.format c.args.stack.now in
    let nodes = c.args.nodes.now in
    let index = c.loop-index.index in
    let item = ap (λ (node : Node). text (index, node)) c.index-nodes-index.is in
    err-front _ c.from_residual.ensures.0
    (front-is
    (front-longer (flat_map text (drop (index + 1) (drawn_nodes nodes))) (front-then c.loop-index.invariant (front-is c.in_err-put_node.ensures item)))
    (indexed-at text nodes index _ c.loop-index-test.true))

pub loop-index-preserved : goal.loop-index-preserved
loop-index-preserved g c =
    let text = node_text c.args.format c.args.stack.now in
    let index = c.loop-index.index in
    let item = ap (λ (node : Node). text (index, node)) c.index-nodes-index.is in
    all-is (all-then c.loop-index.invariant (all-is c.in_ok-put_node.ensures item))
    (sym (indexed-push text c.args.nodes.now index _ c.loop-index-test.true))

pub returns : goal.returns
returns g c =
    let text = node_text c.args.format c.args.stack.now in
    all-is c.loop-index.invariant (indexed-all text c.args.nodes.now c.loop-index.index c.loop-index-test.false)
