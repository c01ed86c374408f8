-- no node so far asks the module
use Rattle.std.proofs.Common.{◌≡◌, false, take}
use Rattle.std.specs.List.{list_any}
use Rattle.pam_drawing.specs.picture.Picture.{asks}
use Rattle.pam_drawing.proofs.picture.heading.is_asked.Given as goal

abbrev pub invariant-loop-node : goal.invariant-loop-node
invariant-loop-node l = list_any (asks l.number) (take l.node-index l.nodes) ≡ false
