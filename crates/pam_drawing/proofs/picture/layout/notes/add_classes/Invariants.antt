-- those of the edges that are left are still to be added
use Rattle.std.proofs.Common.{◌≡◌, drop, map}
use Rattle.pam_drawing.specs.picture.Notes.{class_of}
use Rattle.pam_drawing.specs.picture.Notes.{with_classes}
use Rattle.pam_drawing.proofs.picture.layout.notes.add_classes.Given as goal

abbrev pub invariant-loop-edge : goal.invariant-loop-edge
invariant-loop-edge l =
    with_classes l.classes.items (map class_of (drop l.edge-index l.edges)) ≡ with_classes l.initial.classes.items (map class_of l.edges)
