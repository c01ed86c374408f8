-- For private contracts and proofs alone: the steps on the way to a node of a comparison, the last one first.
use Rattle.std.specs.Prelude.{◌≡◌, ◌≢◌, ◌⊎◌, ◌==◌, ◌<◌, ◌≤◌, ℕ, IsTrue, List, [], ◌∷◌, Option, Some, if◌then◌else◌, length, slice_get, slice_index_or}
use Rattle.pam_codes.specs.Code.{all_codes}
use Rattle.pam_codes.specs.Set.{is_in}
use Rattle.pam_dispatch.specs.Runs.{Assignment, Runs, answers_of, asked_module}
use Rattle.pam_compare.specs.declared.held.HeldAnswer.{HeldAnswer}
use Rattle.pam_compare.specs.declared.nodes.Way.{Way}
use Rattle.pam_compare.specs.declared.turn.Turn.{Turn}
use Rattle.pam_compare.specs.Names.{name_of}
use Rattle.pam_compare.specs.Usual.{first_usual}
use Rattle.pam_compare.specs.Walks.{turn_name}
use Rattle.pam_compare.specs.inner.Turn.{AreAlike, IsTurn}

-- the steps on the way from node 0 to node k, the last one first
unfoldable pub IsTrail : List Way → ℕ → List Way → Type 0
IsTrail ways k [] = k ≡ 0
IsTrail ways k (w ∷ trail) = (0 < k) × (slice_get ways k ≡ Some w) × (w.parent < k) × IsTrail ways w.parent trail

-- the assignment gives, at each step, an answer of the step's class
unfoldable pub Follows : Assignment → List Way → Type 0
Follows a [] = Unit {0}
Follows a (w ∷ trail) = IsTrue (is_in (a w.name) w.class) × Follows a trail

-- an assignment with another answer for one name
abbrev pub with_answer : Assignment → ℕ → ℕ → Assignment
with_answer a name code n = if n == name then code else a n

-- for each name of a trail, its last answer there; for all other names, that of `base`
unfoldable pub answers_on : Assignment → List Way → Assignment
answers_on base [] = base
answers_on base (w ∷ trail) = with_answer (answers_on base trail) w.name w.code

-- a list has the answers of this many modules, in the order of their numbers
pub record AreAnswers (modules : ℕ) (a : Assignment) (codes : List ℕ) : Type 0 where
  pub count : length codes ≡ modules
  pub each : (i : ℕ) → 0 < i → i ≤ modules → answers_of codes i ≡ a i

-- an answer is held for the name of a step, with no codes but those of the step's class
abbrev pub IsKept : List HeldAnswer → Way → Type 0
IsKept held w =
    (i : ℕ) × (h : HeldAnswer) × (slice_get held i ≡ Some h) × (h.name ≡ w.name)
    × ((c : ℕ) → IsTrue (is_in c h.codes) → IsTrue (is_in c w.class))

-- neither stack can still ask a module with this name, where they ask the modules `old` and `new` next. The old stack has `count`
-- modules, and the new one `modules`
pub record IsPast (names : List ℕ) (count modules name : ℕ) (old new : Option ℕ) : Type 0 where
  pub of_old : (i : ℕ) → old ≡ Some i → (name < i) ⊎ (count < name)
  pub of_new : (j k : ℕ) → new ≡ Some j → 0 < k → k ≤ modules → name_of names k ≡ name → k < j

-- these codes include all that are possible for a name, and so tell nothing about it
abbrev pub AreAll : List (List ℕ) → ℕ → List ℕ → Type 0
AreAll possible name codes = (c : ℕ) → c < 31 → IsTrue (is_in c (slice_index_or possible name all_codes)) → IsTrue (is_in c codes)

-- an answer of these codes need not be held: it tells nothing, or neither stack can still ask a module with this name
abbrev pub IsSettled : List (List ℕ) → List ℕ → ℕ → ℕ → ℕ → List ℕ → Option ℕ → Option ℕ → Type 0
IsSettled possible names count modules name codes old new = AreAll possible name codes ⊎ IsPast names count modules name old new

-- the answer of each step is still held, or need not be
unfoldable pub IsCovered : List (List ℕ) → List ℕ → ℕ → ℕ → List HeldAnswer → Option ℕ → Option ℕ → List Way → Type 0
IsCovered possible names count modules held old new [] = Unit {0}
IsCovered possible names count modules held old new (w ∷ trail) =
    (IsKept held w ⊎ IsSettled possible names count modules w.name w.class old new) × IsCovered possible names count modules held old new trail

-- what is held after an answer includes this answer, unless it need not be held, and what was held of the other modules that a stack
-- has yet to ask
pub record IsHeldAfter (possible : List (List ℕ)) (names : List ℕ) (count modules : ℕ) (held after : List HeldAnswer) (answer : HeldAnswer)
    (old new : Option ℕ) : Type 0 where
  pub keeps : (i : ℕ) (h : HeldAnswer) → slice_get held i ≡ Some h → h.name ≢ answer.name →
      ((k : ℕ) × (slice_get after k ≡ Some h)) ⊎ IsPast names count modules h.name old new
  pub adds : ((k : ℕ) × (slice_get after k ≡ Some answer)) ⊎ IsSettled possible names count modules answer.name answer.codes old new

-- a step at this turn: its answer is the first usual one of its class, and all codes of the class are possible, are not ruled out by what is held, and are
-- alike
pub record IsStep (names : List ℕ) (possible : List (List ℕ)) (left right : Runs) (held : List HeldAnswer) (turn : Turn) (w : Way) : Type 0 where
  pub turn_is : IsTurn names (asked_module left) (asked_module right) turn
  pub name : w.name ≡ turn_name names turn
  pub member : IsTrue (is_in w.code w.class)
  pub usual : first_usual w.class ≡ Some w.code
  pub low : (d : ℕ) → IsTrue (is_in d w.class) → d < 31
  pub within : (d : ℕ) → IsTrue (is_in d w.class) → IsTrue (is_in d (slice_index_or possible w.name all_codes))
  pub narrows : (i : ℕ) (h : HeldAnswer) → slice_get held i ≡ Some h → h.name ≡ w.name → (d : ℕ) → IsTrue (is_in d w.class) → IsTrue (is_in d h.codes)
  pub alike : (d : ℕ) → IsTrue (is_in d w.class) → AreAlike turn left right w.code d
