-- a node is in the lane if one of those that are left is
use Rattle.std.proofs.Common.{◌≡◌, drop}
use Rattle.std.specs.List.{list_any}
use Rattle.pam_drawing.specs.picture.inner.Laned.{leaves}
use Rattle.pam_drawing.proofs.picture.layout.heights.has_node.Given as goal

abbrev pub invariant-loop-ports : goal.invariant-loop-ports
invariant-loop-ports l = list_any (leaves l.lane) (drop l.ports-index l.all) ≡ list_any (leaves l.lane) l.all
