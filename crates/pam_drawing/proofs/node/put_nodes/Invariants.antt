-- what comes first is written
use Rattle.std.proofs.Common.{take}
use Rattle.std.specs.List.{flat_map}
use Rattle.pam_codes.specs.Out.{TookAll}
use Rattle.pam_drawing.specs.Drawing.{drawn_nodes, node_text}
use Rattle.pam_drawing.proofs.node.put_nodes.Given as goal

abbrev pub invariant-loop-index : goal.invariant-loop-index
invariant-loop-index g l = TookAll g.W.Write.contents l.initial.out l.out (flat_map (node_text l.format l.stack) (take l.index (drawn_nodes l.nodes)))
