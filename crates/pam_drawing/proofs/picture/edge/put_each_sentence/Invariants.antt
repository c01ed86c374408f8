-- what comes first is written
use Rattle.pam_codes.specs.Out.{TookAll}
use Rattle.pam_drawing.proofs.picture.edge.put_each_sentence.Given as goal
use Rattle.pam_drawing.specs.picture.Picture.{node_sentences}
use Rattle.std.proofs.Common.{take}
use Rattle.std.specs.List.{flat_map}

abbrev pub invariant-loop-node : goal.invariant-loop-node
invariant-loop-node g l =
    TookAll g.W.Write.contents l.initial.out l.out (flat_map (node_sentences l.sheet.stack.now l.sheet.nodes.now) (take l.node-index l.nodes))
