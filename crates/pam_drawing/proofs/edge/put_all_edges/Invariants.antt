-- what comes first is written
use Rattle.std.proofs.Common.{take}
use Rattle.std.specs.List.{flat_map}
use Rattle.pam_codes.specs.Out.{TookAll}
use Rattle.pam_drawing.specs.Drawing.{drawn_nodes, node_edges}
use Rattle.pam_drawing.proofs.edge.put_all_edges.Given as goal

abbrev pub invariant-loop-index : goal.invariant-loop-index
invariant-loop-index g l = TookAll g.W.Write.contents l.initial.out l.out (flat_map (node_edges l.format) (take l.index (drawn_nodes l.nodes)))
