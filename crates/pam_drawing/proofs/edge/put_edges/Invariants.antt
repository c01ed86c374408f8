-- what comes first is written
use Rattle.std.proofs.Common.{take}
use Rattle.std.specs.List.{flat_map}
use Rattle.pam_codes.specs.Out.{TookAll}
use Rattle.pam_drawing.specs.Drawing.{edge_text}
use Rattle.pam_drawing.proofs.edge.put_edges.Given as goal

abbrev pub invariant-loop-edge : goal.invariant-loop-edge
invariant-loop-edge g l = TookAll g.W.Write.contents l.initial.out l.out (flat_map (edge_text l.format l.index) (take l.edge-index l.edges))
