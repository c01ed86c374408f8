-- those of the nodes that are left are still to be added
use Rattle.std.proofs.Common.{◌≡◌, drop}
use Rattle.std.specs.List.{flat_map}
use Rattle.pam_drawing.specs.picture.Notes.{classes_of}
use Rattle.pam_drawing.specs.picture.Notes.{noted_classes, with_classes}
use Rattle.pam_drawing.proofs.picture.layout.notes.noted_classes.Given as goal

abbrev pub invariant-loop-node : goal.invariant-loop-node
invariant-loop-node l = with_classes l.classes.items (flat_map classes_of (drop l.node-index l.nodes)) ≡ noted_classes l.nodes
