use Rattle.pam_codes.proofs.Writing.{all-is, all-then, err-front, front-is}
use Rattle.pam_drawing.proofs.Indices.{indexed-all, indexed-push}
use Rattle.pam_graph.specs.declared.node.Node.{Node}
use Rattle.pam_drawing.proofs.Loops.{failed-indexed}
use Rattle.pam_drawing.proofs.picture.edge.put_each_edge.Goals as goal
use Rattle.pam_drawing.specs.picture.Picture.{node_edges}
use Rattle.std.proofs.Common.{ap, sym}

pub returns-in_err-put_node_edges : goal.returns-in_err-put_node_edges
returns-in_err-put_node_edges g c =
    let text = node_edges c.args.sheet.now.stack.now c.args.sheet.now.nodes.now c.args.sheet.now.layout.now in
    let index = c.loop-index.index in
    let item = ap (λ (x : Node). text (index, x)) c.index-nodes-index.is in
    err-front _ c.from_residual.ensures.0
    (failed-indexed g.W.Write.contents text c.args.nodes.now index _ c.loop-index-test.true c.loop-index.invariant
    (front-is c.in_err-put_node_edges.ensures item))

pub loop-index-preserved : goal.loop-index-preserved
loop-index-preserved g c =
    let text = node_edges c.args.sheet.now.stack.now c.args.sheet.now.nodes.now c.args.sheet.now.layout.now in
    let index = c.loop-index.index in
    let item = ap (λ (x : Node). text (index, x)) c.index-nodes-index.is in
    all-is (all-then c.loop-index.invariant (all-is c.in_ok-put_node_edges.ensures item)) (sym
    (indexed-push text c.args.nodes.now index _ c.loop-index-test.true))

pub returns : goal.returns
returns g c =
    let text = node_edges c.args.sheet.now.stack.now c.args.sheet.now.nodes.now c.args.sheet.now.layout.now in
    all-is c.loop-index.invariant (indexed-all text c.args.nodes.now c.loop-index.index c.loop-index-test.false)
