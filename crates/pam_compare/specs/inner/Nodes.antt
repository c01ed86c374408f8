-- For private contracts and proofs alone: the nodes of a comparison, which are situations that two stacks can be in after the same
-- answers.
use Rattle.std.specs.Prelude.{◌≡◌, ◌⊎◌, ◌<◌, ◌≤◌, ◌++◌, ◌∷◌, [], ℕ, List, Option, None, Some, length, slice_get}
use Rattle.pam_dispatch.specs.declared.flat_item.FlatItem.{FlatItem}
use Rattle.pam_dispatch.specs.declared.place.Place.{Place}
use Rattle.pam_dispatch.specs.Flat.{IsPlaceOf, rest_of, runs_of}
use Rattle.pam_dispatch.specs.Keys.{KeyValue, key_of, rest_at}
use Rattle.pam_dispatch.specs.Runs.{Assignment, Runs, asked_module}
use Rattle.pam_compare.specs.declared.change.Change.{Change}
use Rattle.pam_compare.specs.declared.change.Change.TheVariants.{Admits, Refuses, Tells}
use Rattle.pam_compare.specs.declared.held.HeldAnswer.{HeldAnswer}
use Rattle.pam_compare.specs.declared.node.Node.{Node}
use Rattle.pam_compare.specs.declared.nodes.Found.{Found}
use Rattle.pam_compare.specs.declared.nodes.Nodes.{Nodes}
use Rattle.pam_compare.specs.declared.nodes.Way.{Way}
use Rattle.pam_compare.specs.declared.situation.Situation.{Situation}
use Rattle.pam_compare.specs.declared.turn.Turn.{Turn}
use Rattle.pam_compare.specs.Changes.{change_of}
use Rattle.pam_compare.specs.Comparison.{decision_in}
use Rattle.pam_compare.specs.Held.{Holds}
use Rattle.pam_compare.specs.inner.HeldLists.{AreLinks, IsListed}
use Rattle.pam_compare.specs.Names.{by_name}
use Rattle.pam_compare.specs.inner.Naming.{IsPossible}
use Rattle.pam_compare.specs.inner.Trails.{IsTrail}
use Rattle.pam_compare.specs.Questions.{EndsAfter}
use Rattle.pam_compare.specs.Walks.{Order, new_after, old_after, turn_name, turn_of}

-- place k of a table is a place of this program, and its key is at the same index
pub record IsStored (program : List FlatItem) (keys : List KeyValue) (k : ℕ) (p : Place) : Type 0 where
  pub place : IsPlaceOf program p
  pub key : slice_get keys k ≡ Some (key_of p)
  pub rest : rest_at program (key_of p) ≡ rest_of program p

pub record ArePlaces (program : List FlatItem) (places : List Place) (keys : List KeyValue) : Type 0 where
  pub count : length places ≡ length keys
  pub stored : (k : ℕ) (p : Place) → slice_get places k ≡ Some p → IsStored program keys k p

-- `ends` lists the places of a table that are at the end of a run, and no two of them are in the same state
pub record AreEndsOf (program : List FlatItem) (places : List Place) (ends : List ℕ) : Type 0 where
  pub sound : (m k : ℕ) → slice_get ends m ≡ Some k → (p : Place) × (slice_get places k ≡ Some p) × (asked_module (rest_of program p) ≡ None)
  pub listed : (k : ℕ) (p : Place) → slice_get places k ≡ Some p → asked_module (rest_of program p) ≡ None → (m : ℕ) × (slice_get ends m ≡ Some k)
  pub single : (j k : ℕ) (p q : Place) → slice_get places j ≡ Some p → slice_get places k ≡ Some q → asked_module (rest_of program p) ≡ None →
      rest_of program p ≡ rest_of program q → j ≡ k

-- the nodes consist of places of the two programs, and of situations at these places
pub record AreNodes (old new : List FlatItem) (nodes : Nodes) : Type 0 where
  pub of_old : ArePlaces old nodes.old_places.places.items nodes.old_places.keys
  pub of_new : ArePlaces new nodes.new_places.places.items nodes.new_places.keys
  pub old_ends : AreEndsOf old nodes.old_places.places.items nodes.old_places.ends.items
  pub new_ends : AreEndsOf new nodes.new_places.places.items nodes.new_places.ends.items
  pub links : AreLinks nodes.held_lists.links.keys
  pub within : (k : ℕ) (s : Situation) → slice_get nodes.situations.keys k ≡ Some s →
      (s.old < length nodes.old_places.places.items) × (s.new < length nodes.new_places.places.items)
  pub listed : (k : ℕ) (s : Situation) → slice_get nodes.situations.keys k ≡ Some s →
      (held : List HeldAnswer) × IsListed nodes.held_lists.links.keys s.held held

-- what is in the list `before` is at the same index in `after`
unfoldable pub Keeps : {X : Type 0} → List X → List X → Type 0
Keeps {X} before after = (k : ℕ) (x : X) → slice_get before k ≡ Some x → slice_get after k ≡ Some x

pub record KeepsNodes (before after : Nodes) : Type 0 where
  pub of_old : Keeps before.old_places.places.items after.old_places.places.items
  pub of_new : Keeps before.new_places.places.items after.new_places.places.items
  pub held_lists : Keeps before.held_lists.links.keys after.held_lists.links.keys
  pub situations : Keeps before.situations.keys after.situations.keys
  pub ways : Keeps before.ways.items after.ways.items

-- where both stacks are, and the answers that are held there
pub record Stop : Type 0 where
  pub old : Place
  pub new : Place
  pub held : List HeldAnswer

abbrev pub stop_of : Node → Stop
stop_of node = record { old = node.old; new = node.new; held = node.held.items }

-- the situation has the numbers of the stop's places and of its held list
pub record IsAt (nodes : Nodes) (s : Situation) (n : Stop) : Type 0 where
  pub old : slice_get nodes.old_places.places.items s.old ≡ Some n.old
  pub new : slice_get nodes.new_places.places.items s.new ≡ Some n.new
  pub held : IsListed nodes.held_lists.links.keys s.held n.held

-- a situation in which `left` and `right` are left of the runs, and `held` is held
pub record IsLeftAt (old new : List FlatItem) (nodes : Nodes) (left right : Runs) (held : List HeldAnswer) (s : Situation) : Type 0 where
  pub node : Stop
  pub is_at : IsAt nodes s node
  pub left_is : rest_of old node.old ≡ left
  pub right_is : rest_of new node.new ≡ right
  pub held_is : node.held ≡ held

-- the number of the list that is held at a situation; 0 if there is no situation
abbrev pub list_of : Option Situation → ℕ
list_of None = 0
list_of (Some s) = s.held

-- these answers are held at the situation with this index
abbrev pub AreHeldAt : Nodes → ℕ → List HeldAnswer → Type 0
AreHeldAt nodes index held = IsListed nodes.held_lists.links.keys (list_of (slice_get nodes.situations.keys index)) held

-- node k is the new node, and the last way leads to it
pub record IsNew (old new : List FlatItem) (before after : Nodes) (left right : Runs) (held : List HeldAnswer) (way : Way) (k : ℕ)
    (s : Situation) : Type 0 where
  pub node : Stop
  pub is_at : IsAt after s node
  pub left_is : rest_of old node.old ≡ left
  pub right_is : rest_of new node.new ≡ right
  pub held_is : node.held ≡ held
  pub index : k ≡ length before.situations.keys
  pub ways : after.ways.items ≡ before.ways.items ++ way ∷ []

-- each node was there before, or is the new one
abbrev pub AreAdded : List FlatItem → List FlatItem → Nodes → Nodes → Runs → Runs → List HeldAnswer → Way → Type 0
AreAdded old new before after left right held way =
    (k : ℕ) (s : Situation) → slice_get after.situations.keys k ≡ Some s →
    (slice_get before.situations.keys k ≡ Some s) ⊎ IsNew old new before after left right held way k s

-- in one of the situations `left` and `right` are left of the runs, and the assignment agrees with what is held there
pub record IsMet (old new : List FlatItem) (nodes : Nodes) (a : Assignment) (left right : Runs) : Type 0 where
  pub index : ℕ
  pub situation : Situation
  pub node : Stop
  pub is_there : slice_get nodes.situations.keys index ≡ Some situation
  pub is_at : IsAt nodes situation node
  pub left_is : rest_of old node.old ≡ left
  pub right_is : rest_of new node.new ≡ right
  pub holds : Holds a node.held

-- the node that was found for a change
abbrev pub found_at : Found → Change → Option ℕ
found_at found Admits = found.admits
found_at found Refuses = found.refuses
found_at found Tells = found.tells

-- all nodes that were found are before this one
unfoldable pub AreEarlier : Found → ℕ → Type 0
AreEarlier found index = (change : Change) (k : ℕ) → found_at found change ≡ Some k → k < index

-- what was found stays
unfoldable pub KeepsFound : Found → Found → Type 0
KeepsFound before after = (change : Change) (k : ℕ) → found_at before change ≡ Some k → found_at after change ≡ Some k

-- if there is a change, it has been found at this node or before it
abbrev pub IsNoted : Found → ℕ → Option Change → Type 0
IsNoted found index None = Unit {0}
IsNoted found index (Some change) = (k : ℕ) × (found_at found change ≡ Some k) × (k ≤ index)

-- if the decisions of these runs make a change, it has been found at this node or before it
abbrev pub IsDecided : Found → ℕ → List ℕ → Assignment → Runs → Runs → Type 0
IsDecided found index names a left right = IsNoted found index (change_of (decision_in left a) (decision_in right (by_name names a)))

-- after the next answer the runs are in one of the situations
abbrev pub IsFollowed : List FlatItem → List FlatItem → List ℕ → Order → Nodes → Assignment → Runs → Runs → Type 0
IsFollowed old new names old_first nodes a left right =
    (turn : Turn) × (turn_of names old_first (asked_module left) (asked_module right) ≡ Some turn)
    × IsMet old new nodes a (old_after turn left (a (turn_name names turn))) (new_after turn right (a (turn_name names turn)))

-- node `met` is the first one, or its step is from a node up to this one
abbrev pub IsNear : Nodes → ℕ → ℕ → Type 0
IsNear nodes index met = (met ≡ 0) ⊎ ((way : Way) × (slice_get nodes.ways.items met ≡ Some way) × (way.parent ≤ index))

-- from this stop of a node on, whatever the modules answer: the change has been found, or the next answer leads to one of the situations
unfoldable pub IsDone : List FlatItem → List FlatItem → List ℕ → Order → List (List ℕ) → Nodes → Found → ℕ → Stop → Type 0
IsDone old new names old_first possible nodes found index n =
    (a : Assignment) → IsPossible possible a → Holds a n.held →
    IsDecided found index names a (rest_of old n.old) (rest_of new n.new)
    ⊎ ((f : IsFollowed old new names old_first nodes a (rest_of old n.old) (rest_of new n.new)) × IsNear nodes index f.2.index)

pub record IsVisited (old new : List FlatItem) (names : List ℕ) (old_first : Order) (possible : List (List ℕ)) (nodes : Nodes) (found : Found)
    (index : ℕ) (s : Situation) : Type 0 where
  pub node : Stop
  pub is_at : IsAt nodes s node
  pub done : IsDone old new names old_first possible nodes found index node

-- both stacks begin at the first node
abbrev pub IsBegun : List FlatItem → List FlatItem → Nodes → Type 0
IsBegun old new nodes = (a : Assignment) → ((name : ℕ) → a name < 31) → (m : IsMet old new nodes a (runs_of old) (runs_of new)) × (m.index ≡ 0)

-- if there is a change, it is found within this number of steps
abbrev pub IsFoundWithin : Found → List Way → ℕ → Option Change → Type 0
IsFoundWithin found ways n None = Unit {0}
IsFoundWithin found ways n (Some change) =
    (k : ℕ) × (found_at found change ≡ Some k) × ((trail : List Way) → IsTrail ways k trail → length trail ≤ n)

-- whatever the modules answer, the change that the stacks make has been found, after as few steps as these answers take
unfoldable pub IsSearched : List FlatItem → List FlatItem → List ℕ → Order → List (List ℕ) → List Way → Found → Type 0
IsSearched old new names old_first possible ways found =
    (a : Assignment) (n : ℕ) → IsPossible possible a → EndsAfter names old_first a (by_name names a) n (runs_of old) (runs_of new) →
    IsFoundWithin found ways n (change_of (decision_in (runs_of old) a) (decision_in (runs_of new) (by_name names a)))
