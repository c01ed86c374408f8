-- For private contracts and proofs alone: each node of a comparison is reached by answers that agree.
use Rattle.std.specs.Prelude.{◌≡◌, ◌⊎◌, ◌<◌, ◌≤◌, ◌+◌, ◌++◌, ◌∷◌, [], ℕ, IsTrue, List, Option, None, Some, length, map, slice_get, slice_index_or}
use Rattle.std.specs.List.{AllByRecursion}
use Rattle.pam_codes.specs.Code.{all_codes}
use Rattle.pam_codes.specs.Set.{is_in}
use Rattle.pam_dispatch.specs.declared.flat_item.FlatItem.{FlatItem}
use Rattle.pam_dispatch.specs.Flat.{modules_of, rest_of, runs_of}
use Rattle.pam_dispatch.specs.Runs.{Assignment, AsksRise, Runs, asked_module}
use Rattle.pam_paths.specs.Listing.{Allowance}
use Rattle.pam_compare.specs.declared.change.Change.{Change}
use Rattle.pam_compare.specs.declared.held.HeldAnswer.{HeldAnswer}
use Rattle.pam_compare.specs.declared.naming.Naming.{Naming}
use Rattle.pam_compare.specs.declared.nodes.Found.{Found}
use Rattle.pam_compare.specs.declared.nodes.Nodes.{Nodes}
use Rattle.pam_compare.specs.declared.nodes.Way.{Way}
use Rattle.pam_compare.specs.declared.situation.Situation.{Situation}
use Rattle.pam_compare.specs.Changes.{change_of}
use Rattle.pam_compare.specs.Comparison.{decision_in}
use Rattle.pam_compare.specs.Held.{Holds}
use Rattle.pam_compare.specs.Names.{AreNames, by_name, name_of}
use Rattle.pam_compare.specs.inner.Naming.{AreFound, AreLast, IsKnown, IsPossible}
use Rattle.pam_compare.specs.Walks.{IsAfter}
use Rattle.pam_compare.specs.inner.Held.{AreAhead}
use Rattle.pam_compare.specs.inner.Nodes.{IsAt, Stop, found_at}
use Rattle.pam_compare.specs.inner.Turn.{first_of}
use Rattle.pam_compare.specs.Questions.{EndsAfter}
use Rattle.pam_compare.specs.Situations.{Comes}
use Rattle.pam_compare.specs.Usual.{first_usual}
use Rattle.pam_compare.specs.inner.Trails.{Follows, IsCovered, IsTrail, answers_on}

-- the tables of a naming fit two programs
pub record IsNaming (old new : List FlatItem) (naming : Naming) : Type 0 where
  pub names : length naming.names.items ≡ modules_of new + 1
  pub last : AreLast naming.names.items naming.last.items
  pub found : AreFound naming.names.items naming.last.items
  pub old_modules : naming.old_modules ≡ modules_of old
  pub possible : length naming.possible.items ≡ modules_of old + modules_of new + 1
  pub low : (j : ℕ) → 0 < j → j ≤ modules_of new → name_of naming.names.items j ≤ modules_of old + modules_of new

-- each name has the codes that the knowledge of both stacks allows
pub record IsNamingFor (old_allows new_allows : Allowance) (old new : List FlatItem) (partners : List (Option ℕ)) (naming : Naming) : Type 0 where
  pub names : AreNames old_allows new_allows (modules_of old) (modules_of new) partners naming.names.items
  pub possible : (a : Assignment) → IsKnown old_allows new_allows (modules_of old) (modules_of new) naming.names.items a →
      IsPossible naming.possible.items a
  pub exact : (a : Assignment) → IsPossible naming.possible.items a →
      IsKnown old_allows new_allows (modules_of old) (modules_of new) naming.names.items a

-- the answer of a step is possible, and the first usual one of its class
pub record IsFit (possible : List (List ℕ)) (w : Way) : Type 0 where
  pub code : w.code < 31
  pub member : IsTrue (is_in w.code (slice_index_or possible w.name all_codes))
  pub within : w.name < length possible
  pub usual : first_usual w.class ≡ Some w.code

-- the steps to node k leave `left` and `right` of the runs, and `held` is held after them
pub record IsWayTo (old new : List FlatItem) (names : List ℕ) (possible : List (List ℕ)) (ways : List Way) (k : ℕ) (left right : Runs)
    (held : List HeldAnswer) : Type 0 where
  pub trail : List Way
  pub is_trail : IsTrail ways k trail
  pub old_low : ℕ
  pub old_rise : AsksRise old_low (modules_of old) left
  pub new_low : ℕ
  pub new_rise : AsksRise new_low (modules_of new) right
  pub fits : AllByRecursion (IsFit possible) trail
  pub follows : (base : Assignment) → Follows (answers_on base trail) trail
  pub covered : IsCovered possible names (modules_of old) (modules_of new) held (asked_module left) (asked_module right) trail
  pub old_comes : (a : Assignment) → Follows a trail → Comes (runs_of old) a left
  pub new_comes : (a : Assignment) → Follows a trail → Comes (runs_of new) (by_name names a) right
  pub holds : (a : Assignment) → Follows a trail → Holds a held

-- the same for node k, whose situation is `s`
pub record IsReachedAt (old new : List FlatItem) (names : List ℕ) (possible : List (List ℕ)) (nodes : Nodes) (k : ℕ) (s : Situation) : Type 0 where
  pub node : Stop
  pub is_at : IsAt nodes s node
  pub way : IsWayTo old new names possible nodes.ways.items k (rest_of old node.old) (rest_of new node.new) node.held

-- there are such steps to each node
pub record AreReached (old new : List FlatItem) (names : List ℕ) (possible : List (List ℕ)) (nodes : Nodes) : Type 0 where
  pub count : length nodes.ways.items ≡ length nodes.situations.keys
  pub reached : (k : ℕ) (s : Situation) → slice_get nodes.situations.keys k ≡ Some s → IsReachedAt old new names possible nodes k s

-- the answer that may be held after a step
abbrev pub step_of : Way → HeldAnswer
step_of w = record { name = w.name; codes = w.class }

-- no two steps from the same node have the same class. What is at index 0 is no step, since none leads to the first node
unfoldable pub AreUnique : List Way → Type 0
AreUnique ways =
    (j k : ℕ) (v w : Way) → 0 < j → 0 < k → slice_get ways j ≡ Some v → slice_get ways k ≡ Some w → v.parent ≡ w.parent → v.class ≡ w.class → j ≡ k

-- no step from this node has this class
unfoldable pub IsFresh : List Way → ℕ → List ℕ → Type 0
IsFresh ways parent class = (j : ℕ) (w : Way) → 0 < j → slice_get ways j ≡ Some w → w.parent ≡ parent → w.class ≡ class → ⊥

-- each step is from a node before this one
unfoldable pub AreBelow : List Way → ℕ → Type 0
AreBelow ways index = (j : ℕ) (w : Way) → 0 < j → slice_get ways j ≡ Some w → w.parent < index

-- steps to later nodes are not from earlier ones
unfoldable pub AreRising : List Way → Type 0
AreRising ways =
    (j k : ℕ) (v w : Way) → 0 < j → j ≤ k → slice_get ways j ≡ Some v → slice_get ways k ≡ Some w → v.parent ≤ w.parent

pub record AreOrdered (ways : List Way) (index : ℕ) : Type 0 where
  pub unique : AreUnique ways
  pub below : AreBelow ways index
  pub rising : AreRising ways

-- the steps are the same as before, or there is one more
abbrev pub HasOneMore : List Way → List Way → Way → Type 0
HasOneMore before after way = (after ≡ before) ⊎ (after ≡ before ++ way ∷ [])

-- the steps to node k are those of a walk that leaves `left` and `right` of the runs, with `held` held. All that is held is of
-- modules that a stack has yet to ask
pub record IsWalkTo (old new : List FlatItem) (naming : Naming) (ways : List Way) (k : ℕ) (left right : Runs) (held : List HeldAnswer) : Type 0 where
  pub trail : List Way
  pub is_trail : IsTrail ways k trail
  pub after : (a : Assignment) → Follows a trail →
      IsAfter old new naming.names.items naming.possible.items (first_of naming.ranks) a (by_name naming.names.items a) (map step_of trail) left right held
  pub ahead : AreAhead naming.names.items (modules_of old) (modules_of new) held (asked_module left) (asked_module right)

-- the same for node k, whose situation is `s`
pub record IsWalkedAt (old new : List FlatItem) (naming : Naming) (nodes : Nodes) (k : ℕ) (s : Situation) : Type 0 where
  pub node : Stop
  pub is_at : IsAt nodes s node
  pub walk : IsWalkTo old new naming nodes.ways.items k (rest_of old node.old) (rest_of new node.new) node.held

-- there is such a walk to each node
unfoldable pub AreWalked : List FlatItem → List FlatItem → Naming → Nodes → Type 0
AreWalked old new naming nodes = (k : ℕ) (s : Situation) → slice_get nodes.situations.keys k ≡ Some s → IsWalkedAt old new naming nodes k s

-- both runs end at node k, and their decisions make this change
pub record IsEnd (old new : List FlatItem) (nodes : Nodes) (k : ℕ) (change : Change) : Type 0 where
  pub situation : Situation
  pub node : Stop
  pub is_there : slice_get nodes.situations.keys k ≡ Some situation
  pub is_at : IsAt nodes situation node
  pub old_ends : asked_module (rest_of old node.old) ≡ None
  pub new_ends : asked_module (rest_of new node.new) ≡ None
  pub change_is : (a b : Assignment) → change_of (decision_in (rest_of old node.old) a) (decision_in (rest_of new node.new) b) ≡ Some change

unfoldable pub AreEnds : List FlatItem → List FlatItem → Nodes → Found → Type 0
AreEnds old new nodes found = (change : Change) (k : ℕ) → found_at found change ≡ Some k → IsEnd old new nodes k change

-- no answers that make this change take fewer steps than there are to node k
unfoldable pub IsNearest : List FlatItem → List FlatItem → Naming → List Way → ℕ → Change → Type 0
IsNearest old new naming ways k change =
    (a : Assignment) (n : ℕ) (trail : List Way) → IsPossible naming.possible.items a →
    change_of (decision_in (runs_of old) a) (decision_in (runs_of new) (by_name naming.names.items a)) ≡ Some change →
    EndsAfter naming.names.items (first_of naming.ranks) a (by_name naming.names.items a) n (runs_of old) (runs_of new) → IsTrail ways k trail → length trail ≤ n
