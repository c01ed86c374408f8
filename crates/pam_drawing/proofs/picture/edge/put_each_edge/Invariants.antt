-- what comes first is written
use Rattle.pam_codes.specs.Out.{TookAll}
use Rattle.pam_drawing.proofs.picture.edge.put_each_edge.Given as goal
use Rattle.pam_drawing.specs.picture.Picture.{node_edges}
use Rattle.std.proofs.Common.{take}
use Rattle.std.specs.List.{enumerate_from, flat_map}

abbrev pub invariant-loop-index : goal.invariant-loop-index
invariant-loop-index g l =
    TookAll g.W.Write.contents l.initial.out l.out (flat_map (node_edges l.sheet.stack.now l.sheet.nodes.now l.sheet.layout.now) (take l.index
    (enumerate_from 0 l.nodes)))
