-- what comes first is written
use Rattle.pam_codes.specs.Out.{TookAll}
use Rattle.pam_drawing.proofs.picture.edge.put_sentences_of.Given as goal
use Rattle.pam_drawing.specs.picture.Picture.{sentence_text}
use Rattle.std.proofs.Common.{take}
use Rattle.std.specs.List.{flat_map}

abbrev pub invariant-loop-edge : goal.invariant-loop-edge
invariant-loop-edge g l =
    TookAll g.W.Write.contents l.initial.out l.out (flat_map (sentence_text l.sheet.stack.now l.sheet.nodes.now l.node) (take l.edge-index l.edges))
