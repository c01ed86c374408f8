use Rattle.pam_codes.proofs.Writing.{err-front, front-is}
use Rattle.pam_drawing.proofs.Loops.{failed-at}
use Rattle.pam_drawing.proofs.picture.edge.put_sentences_of.Goals as goal
use Rattle.pam_drawing.specs.picture.Picture.{sentence_text}
use Rattle.std.proofs.Common.{ap}

pub returns-in_err-put_sentence : goal.returns-in_err-put_sentence
returns-in_err-put_sentence g c =
    let text = sentence_text c.args.sheet.now.stack.now c.args.sheet.now.nodes.now c.args.node.now in
    err-front _ c.from_residual.ensures.0
    (failed-at g.W.Write.contents text c.args.edges.now c.loop-edge.edge-index _ c.loop-edge-test.true c.loop-edge.invariant
    (front-is c.in_err-put_sentence.ensures (ap text c.edge-item.is)))
