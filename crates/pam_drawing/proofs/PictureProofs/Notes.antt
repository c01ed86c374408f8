-- The notes of a picture, from the classes that are gathered.
use Rattle.std.proofs.Common.{◌≡◌, ◌≢◌, ◌∙◌, true, false, ℕ, ◌+◌, ◌-◌, ◌==◌, ◌<◌, zero, suc, List, [], ◌∷◌, ◌++◌, Option, None, add-one, ap, arith}
use Rattle.std.proofs.Common.{length, map, refl, slice_get, sym, get_or, drop, subst}
use Rattle.std.proofs.lemmas.List.{length-map, map-append}
use Rattle.std.proofs.lemmas.List.Elements.{All-nil}
use Rattle.std.specs.List.{All, AllPairs, flat_map, range_with_len}
use Rattle.pam_graph.specs.declared.node.Node.{Node}
use Rattle.pam_drawing.proofs.PictureProofs.Noted.{each-fits, found, lacking, once, only}
use Rattle.pam_drawing.proofs.PictureProofs.Ranges.{range-more}
use Rattle.pam_drawing.specs.picture.Notes.{HasNotes, IsNoted, classes_of, number_of, told_at, told_by, told_of}
use Rattle.pam_drawing.specs.declared.picture.layout.Layout.{Layout}
use Rattle.pam_drawing.specs.declared.picture.layout.shapes.Note.{Note}
use Rattle.pam_drawing.specs.declared.picture.layout.shapes.Place.{Place}
use Rattle.pam_drawing.specs.declared.picture.layout.shapes.Route.{Route}
use Rattle.pam_drawing.specs.picture.Notes.{noted_classes, number_from}
use Rattle.pam_drawing.specs.picture.inner.Noted.{class_with, note_of, notes_of, numbers_in}

abbrev with_number : ℕ → List Note → Option (List ℕ)
with_number n notes = told_at notes n

-- no note has a number before the first
before : (a n : ℕ) (notes : List Note) → n < a → map number_of notes ≡ range_with_len a (length notes) → with_number n notes ≡ None
before a n [] h e = refl
before a n (note ∷ notes) h e =
    let first : note.number ≡ a = ap (λ (l : List ℕ). get_or l 0 0) e in
    let other : (note.number == n) ≡ false = grind (arith, first, h) in
    rw other (before (a + 1) n notes (omega (arith, h)) (ap (drop 1) e))

-- the note after k others has the number that is k more than the first
after : (a k : ℕ) (notes : List Note) → map number_of notes ≡ range_with_len a (length notes)
    → with_number (a + k) notes ≡ slice_get (map told_by notes) k
after a k [] e = refl
after a zero (note ∷ notes) e =
    let first : note.number ≡ a = ap (λ (l : List ℕ). get_or l 0 0) e in
    let same : (note.number == a + 0) ≡ true = grind (arith, first) in
    rw same refl
after a (suc k) (note ∷ notes) e =
    let first : note.number ≡ a = ap (λ (l : List ℕ). get_or l 0 0) e in
    let other : (note.number == a + suc k) ≡ false = grind (arith, first) in
    let next : a + 1 + k ≡ a + suc k = omega arith in
    rw other (ap (λ (n : ℕ). with_number n notes) (sym next) ∙ after (a + 1) k notes (ap (drop 1) e))

-- one more note
pub one-more : (notes all : List Note) (new : Note) (i : ℕ) → map number_of notes ≡ range_with_len 1 i → new.number ≡ i + 1 → all ≡ notes ++ new ∷ []
    → map number_of all ≡ range_with_len 1 (i + 1)
one-more notes all new i so-far number pushed =
    let numbered : new.number ≡ 1 + i = omega (arith, number) in
    ap (map number_of) pushed ∙ map-append number_of notes (new ∷ []) ∙ ap (λ (l : List ℕ). l ++ new.number ∷ []) so-far
    ∙ ap (λ (m : ℕ). range_with_len 1 i ++ m ∷ []) numbered ∙ sym (range-more 1 i) ∙ ap (range_with_len 1) (sym (add-one i))

-- what notes tell that are numbered from 1
module _ (known : List (List ℕ)) (notes : List Note) (numbers : map number_of notes ≡ range_with_len 1 (length notes))
    (classes : map told_by notes ≡ known) where
  told : (n : ℕ) → told_at notes n ≡ class_with known n
  told zero = before 1 0 notes (omega arith) numbers
  told (suc n) =
      let shift : 1 + n ≡ suc n = omega arith in
      let back : suc n - 1 ≡ n = omega arith in
      let some : (suc n == 0) ≡ false = grind arith in
      rw some (ap (λ (k : ℕ). told_at notes k) (sym shift) ∙ after 1 n notes numbers
      ∙ ap (λ (l : List (List ℕ)). slice_get l n) classes ∙ ap (slice_get known) (sym back))

  routes-told : (routes : List Route)
      → map (λ (route : Route). told_at notes route.note) routes ≡ map (class_with known) (map note_of routes)
  routes-told [] = refl
  routes-told (route ∷ routes) = ap (λ (o : Option (List ℕ)). o ∷ map (λ (r : Route). told_at notes r.note) routes) (told route.note)
      ∙ ap (λ (os : List (Option (List ℕ))). class_with known route.note ∷ os) (routes-told routes)

  places-told : (places : List Place) → map (told_of notes) places ≡ map (map (class_with known)) (map notes_of places)
  places-told [] = refl
  places-told (place ∷ places) = ap (λ (o : List (Option (List ℕ))). o ∷ map (told_of notes) places) (routes-told place.routes.items)
      ∙ ap (λ (os : List (List (Option (List ℕ)))). map (class_with known) (notes_of place) ∷ os) (places-told places)

-- the classes of the notes with the numbers of classes
classes-found : (known classes : List (List ℕ)) → map (class_with known) (map (number_from 1 known) classes) ≡ map (found known) classes
classes-found known [] = refl
classes-found known (c ∷ cs) = ap (λ (os : List (Option (List ℕ))). class_with known (number_from 1 known c) ∷ os) (classes-found known cs)

nodes-found : (known : List (List ℕ)) (nodes : List Node)
    → map (map (class_with known)) (map (numbers_in known) nodes) ≡ map (λ (node : Node). map (found known) (classes_of node)) nodes
nodes-found known [] = refl
nodes-found known (node ∷ nodes) =
    ap (λ (o : List (Option (List ℕ))). o ∷ map (map (class_with known)) (map (numbers_in known) nodes)) (classes-found known (classes_of node))
    ∙ ap (λ (os : List (List (Option (List ℕ)))). map (found known) (classes_of node) ∷ os) (nodes-found known nodes)

-- the notes of a layout
pub has-notes : (nodes : List Node) (known : List (List ℕ)) (layout : Layout) → known ≡ noted_classes nodes
    → map number_of layout.notes.items ≡ range_with_len 1 (length known) → map told_by layout.notes.items ≡ known
    → map notes_of layout.places.items ≡ map (numbers_in known) nodes → HasNotes nodes layout
has-notes nodes known layout gathered numbers classes places =
    let notes = layout.notes.items in
    let pool = flat_map classes_of nodes in
    let count : length known ≡ length notes = sym (ap length classes) ∙ length-map notes told_by in
    let numbered : map number_of notes ≡ range_with_len 1 (length notes) = numbers ∙ ap (range_with_len 1) count in
    let told = sym gathered ∙ sym classes in
    record {
      numbers = numbered;
      labels =
          places-told known notes numbered classes layout.places.items ∙ ap (map (map (class_with known))) places
          ∙ nodes-found known nodes ∙ each-fits known (lacking known pool gathered) classes_of [] nodes gathered;
      edges = subst (All (IsNoted nodes)) told (only (IsNoted nodes) [] pool (All-nil (IsNoted nodes)) (λ c h noted. (h, noted)));
      order = classes ∙ gathered;
      once = subst (AllPairs (λ class other. class ≢ other)) told (once [] pool (λ i j d h l. absurd (omega (arith, l))));
    }
