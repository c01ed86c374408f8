use Rattle.pam_codes.proofs.Writing.{err-front, front-is}
use Rattle.pam_drawing.proofs.Loops.{failed-at}
use Rattle.pam_drawing.proofs.picture.edge.put_each_sentence.Goals as goal
use Rattle.pam_drawing.specs.picture.Picture.{node_sentences}
use Rattle.std.proofs.Common.{ap}

pub returns-in_err-put_node_sentences : goal.returns-in_err-put_node_sentences
returns-in_err-put_node_sentences g c =
    let text = node_sentences c.args.sheet.now.stack.now c.args.sheet.now.nodes.now in
    err-front _ c.from_residual.ensures.0
    (failed-at g.W.Write.contents text c.args.nodes.now c.loop-node.node-index _ c.loop-node-test.true c.loop-node.invariant
    (front-is c.in_err-put_node_sentences.ensures (ap text c.node-item.is)))
