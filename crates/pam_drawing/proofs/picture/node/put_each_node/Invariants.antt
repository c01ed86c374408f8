-- what comes first is written
use Rattle.pam_codes.specs.Out.{TookAll}
use Rattle.pam_drawing.proofs.picture.node.put_each_node.Given as goal
use Rattle.pam_drawing.specs.picture.Picture.{node_text}
use Rattle.std.proofs.Common.{take}
use Rattle.std.specs.List.{enumerate_from, flat_map}

abbrev pub invariant-loop-index : goal.invariant-loop-index
invariant-loop-index g l =
    TookAll g.W.Write.contents l.initial.out l.out (flat_map (node_text l.sheet.stack.now l.sheet.layout.now) (take l.index
    (enumerate_from 0 l.nodes)))
