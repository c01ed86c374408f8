-- one place for each node so far, in its column and at the height of its lane, with a way for each of its edges, and the number of the note of each
use Rattle.std.proofs.Common.{◌≡◌, map, take}
use Rattle.std.specs.List.{range_with_len}
use Rattle.pam_drawing.specs.picture.inner.Laned.{height_in, height_of}
use Rattle.pam_drawing.specs.picture.Layouts.{edges_of, routes_of}
use Rattle.pam_drawing.specs.picture.inner.Noted.{notes_of, numbers_in}
use Rattle.pam_drawing.specs.picture.inner.Spaced.{module_of, place_in, x_of}
use Rattle.pam_drawing.proofs.picture.layout.routes.Measures.places.Given as goal

abbrev pub invariant-loop-index : goal.invariant-loop-index
invariant-loop-index l = record {
  routes : map routes_of l.places.items ≡ map edges_of (take l.index l.nodes);
  notes : map notes_of l.places.items ≡ map (numbers_in l.self.noted.now) (take l.index l.nodes);
  columns : map x_of l.places.items ≡ map (place_in l.self.spaces.now) (map module_of (take l.index l.nodes));
  heights : map height_of l.places.items ≡ map (height_in l.self.heights.now l.self.grid.now.lanes.of_nodes.items) (range_with_len 0 l.index);
}
