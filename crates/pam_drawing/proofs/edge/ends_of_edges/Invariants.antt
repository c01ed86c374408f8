-- the ends so far
use Rattle.std.proofs.Common.{◌≡◌, take}
use Rattle.std.specs.List.{list_any}
use Rattle.pam_codes.specs.Set.{codes_where}
use Rattle.pam_drawing.specs.Drawing.{is_end}
use Rattle.pam_graph.specs.declared.node.Edge.{Edge}
use Rattle.pam_drawing.proofs.edge.ends_of_edges.Given as goal

abbrev pub invariant-loop-edge : goal.invariant-loop-edge
invariant-loop-edge l = l.ends ≡ codes_where (λ code. list_any (λ (edge : Edge). is_end code edge.target) (take l.edge-index l.edges))
