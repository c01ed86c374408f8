-- one way for each edge so far, with the number of the note of its class
use Rattle.std.proofs.Common.{◌≡◌, length, map, take}
use Rattle.pam_drawing.specs.picture.Notes.{class_of}
use Rattle.pam_drawing.specs.picture.Notes.{number_from}
use Rattle.pam_drawing.specs.picture.inner.Noted.{note_of}
use Rattle.pam_drawing.proofs.picture.layout.routes.Measures.place.Given as goal

abbrev pub invariant-loop-position : goal.invariant-loop-position
invariant-loop-position l = record {
  routes : length l.routes.items ≡ l.position;
  notes : map note_of l.routes.items ≡ map (number_from 1 l.self.noted.now) (map class_of (take l.position l.node.edges.items));
}
