-- the ends so far
use Rattle.std.proofs.Common.{◌≡◌, take}
use Rattle.std.specs.List.{list_any}
use Rattle.pam_codes.specs.Set.{codes_where}
use Rattle.pam_drawing.specs.Drawing.{leads_to}
use Rattle.pam_drawing.proofs.edge.ends_of_nodes.Given as goal

abbrev pub invariant-loop-node : goal.invariant-loop-node
invariant-loop-node l = l.ends ≡ codes_where (λ code. list_any (leads_to code) (take l.node-index l.nodes))
