-- For private contracts and proofs alone: the numbers of notes, and the classes with these numbers.
use Rattle.std.specs.Prelude.{ℕ, ◌-◌, ◌==◌, if◌then◌else◌, List, Option, None, map, slice_get}
use Rattle.pam_graph.specs.declared.node.Node.{Node}
use Rattle.pam_drawing.specs.picture.Notes.{classes_of, number_from}
use Rattle.pam_drawing.specs.declared.picture.layout.shapes.Place.{Place}
use Rattle.pam_drawing.specs.declared.picture.layout.shapes.Route.{Route}

-- the class with a number, where the first has the number 1
abbrev pub class_with : List (List ℕ) → ℕ → Option (List ℕ)
class_with known number = if number == 0 then None else slice_get known (number - 1)

-- the numbers of the notes of a node's edges, where these classes have notes
abbrev pub numbers_in : List (List ℕ) → Node → List ℕ
numbers_in known node = map (number_from 1 known) (classes_of node)

abbrev pub note_of : Route → ℕ
note_of route = route.note

abbrev pub notes_of : Place → List ℕ
notes_of place = map note_of place.routes.items
