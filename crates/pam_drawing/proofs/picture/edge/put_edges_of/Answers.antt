use Rattle.pam_codes.proofs.Writing.{all-is, all-then, err-front, front-is}
use Rattle.pam_drawing.proofs.Indices.{indexed-all, indexed-push}
use Rattle.pam_graph.specs.declared.node.Edge.{Edge}
use Rattle.pam_drawing.proofs.Loops.{failed-indexed}
use Rattle.pam_drawing.proofs.picture.edge.put_edges_of.Goals as goal
use Rattle.pam_drawing.specs.picture.Picture.{edge_text}
use Rattle.std.proofs.Common.{ap, sym}

pub returns-in_err-put_edge : goal.returns-in_err-put_edge
returns-in_err-put_edge g c =
    let text = edge_text c.args.sheet.now.stack.now c.args.sheet.now.nodes.now c.args.sheet.now.layout.now (c.args.index, c.args.node.now) in
    let index = c.loop-position.position in
    let item = ap (λ (x : Edge). text (index, x)) c.index-edges-position.is in
    err-front _ c.from_residual.ensures.0
    (failed-indexed g.W.Write.contents text c.args.edges.now index _ c.loop-position-test.true c.loop-position.invariant
    (front-is c.in_err-put_edge.ensures item))

pub loop-position-preserved : goal.loop-position-preserved
loop-position-preserved g c =
    let text = edge_text c.args.sheet.now.stack.now c.args.sheet.now.nodes.now c.args.sheet.now.layout.now (c.args.index, c.args.node.now) in
    let index = c.loop-position.position in
    let item = ap (λ (x : Edge). text (index, x)) c.index-edges-position.is in
    all-is (all-then c.loop-position.invariant (all-is c.in_ok-put_edge.ensures item)) (sym
    (indexed-push text c.args.edges.now index _ c.loop-position-test.true))

pub returns : goal.returns
returns g c =
    all-is c.loop-position.invariant (indexed-all (edge_text c.args.sheet.now.stack.now c.args.sheet.now.nodes.now c.args.sheet.now.layout.now
    (c.args.index, c.args.node.now)) c.args.edges.now c.loop-position.position c.loop-position-test.false)
