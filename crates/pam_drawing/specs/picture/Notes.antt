-- The notes below a picture, which tell the classes that have no room in their labels.
use Rattle.std.specs.Prelude.{◌+◌, nat_eq, Bool, ◌&&◌, [], ◌∷◌, ◌++◌, ◌≡◌, ◌≢◌, ℕ, ◌==◌, if◌then◌else◌, true, List, Option, Some, None, length, map}
use Rattle.std.specs.Cmp.Lexicographic.{pointwise}
use Rattle.std.specs.List.{All, AllPairs, Contains, find, flat_map, range_with_len}
use Rattle.std.specs.Option.{option_map}
use Rattle.pam_graph.specs.declared.node.Edge.{Edge}
use Rattle.pam_graph.specs.declared.node.Node.{Node}
use Rattle.pam_drawing.specs.picture.Labels.{has_note}
use Rattle.pam_drawing.specs.declared.picture.layout.Layout.{Layout}
use Rattle.pam_drawing.specs.declared.picture.layout.shapes.Note.{Note}
use Rattle.pam_drawing.specs.declared.picture.layout.shapes.Place.{Place}
use Rattle.pam_drawing.specs.declared.picture.layout.shapes.Route.{Route}

abbrev pub class_of : Edge → List ℕ
class_of edge = edge.class

abbrev pub classes_of : Node → List (List ℕ)
classes_of node = map class_of node.edges.items

-- a class whose codes are told below the picture; nothing for another one
abbrev pub if_noted : List ℕ → Option (List ℕ)
if_noted class = if has_note class then Some class else None

abbrev pub noted_of : Node → List (Option (List ℕ))
noted_of node = map if_noted (classes_of node)

abbrev pub number_of : Note → ℕ
number_of note = note.number

abbrev pub told_by : Note → List ℕ
told_by note = note.class

-- the class that the note with this number tells; nothing if no note has it
abbrev pub told_at : List Note → ℕ → Option (List ℕ)
told_at notes number = option_map told_by (find (λ (note : Note). note.number == number) notes)

-- what the notes tell to which the labels of the edges of a node refer
abbrev pub told_of : List Note → Place → List (Option (List ℕ))
told_of notes place = map (λ (route : Route). told_at notes route.note) place.routes.items

-- some edge has this class, and its label refers to a note
abbrev pub IsNoted : List Node → List ℕ → Type 0
IsNoted nodes class = Contains (flat_map classes_of nodes) class × (has_note class ≡ true)

abbrev pub is_same : List ℕ → List ℕ → Bool
is_same class other = pointwise nat_eq class other

-- the number of a class among these, of which the first has the number n; 0 if it is none of them
abbrev pub number_from : ℕ → List (List ℕ) → List ℕ → ℕ
number_from n [] class = 0
number_from n (other ∷ others) class = if is_same other class then n else number_from (n + 1) others class

-- classes, each once, and one more that has a note
abbrev pub with_class : List (List ℕ) → List ℕ → List (List ℕ)
with_class known class = if has_note class && (number_from 1 known class == 0) then known ++ class ∷ [] else known

abbrev pub with_classes : List (List ℕ) → List (List ℕ) → List (List ℕ)
with_classes known [] = known
with_classes known (class ∷ classes) = with_classes (with_class known class) classes

-- the classes of the edges of these nodes that have notes, each once, in the order of the edges
abbrev pub noted_classes : List Node → List (List ℕ)
noted_classes nodes = with_classes [] (flat_map classes_of nodes)

-- THE NOTES of the picture of these nodes are numbered from 1. The label of each edge refers to the note that tells its class, or to
-- no note if its class has none. Each note tells the class of some such edge, no two notes tell the same, and they are in the order of
-- the edges
pub record HasNotes (nodes : List Node) (layout : Layout) : Type 0 where
  pub numbers : map number_of layout.notes.items ≡ range_with_len 1 (length layout.notes.items)
  pub labels : map (told_of layout.notes.items) layout.places.items ≡ map noted_of nodes
  pub edges : All (IsNoted nodes) (map told_by layout.notes.items)
  pub order : map told_by layout.notes.items ≡ noted_classes nodes
  pub once : AllPairs (λ class other. class ≢ other) (map told_by layout.notes.items)
