-- what comes first is written
use Rattle.pam_codes.specs.Out.{TookAll}
use Rattle.pam_drawing.proofs.picture.edge.put_edges_of.Given as goal
use Rattle.pam_drawing.specs.picture.Picture.{edge_text}
use Rattle.std.proofs.Common.{take}
use Rattle.std.specs.List.{enumerate_from, flat_map}

abbrev pub invariant-loop-position : goal.invariant-loop-position
invariant-loop-position g l =
    TookAll g.W.Write.contents l.initial.out l.out (flat_map (edge_text l.sheet.stack.now l.sheet.nodes.now l.sheet.layout.now (l.index, l.node))
    (take l.position (enumerate_from 0 l.edges)))
