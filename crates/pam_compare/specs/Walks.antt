-- THE WALK of two stacks that run side by side, one answer after the other: pam.conf(5).
use Rattle.std.specs.Prelude.{◌≡◌, ◌==◌, ◌&&◌, ◌||◌, ◌++◌, ℕ, ◌<◌, nat_le, not, Bool, false, IsTrue, if◌then◌else◌}
use Rattle.std.specs.Prelude.{List, [], ◌∷◌, filter, slice_get, slice_index_or, Option, Some, None}
use Rattle.std.specs.List.{list_any, range_with_len}
use Rattle.pam_codes.specs.Code.{all_codes}
use Rattle.pam_codes.specs.Set.{IsCodeSet, is_in}
use Rattle.pam_dispatch.specs.declared.flat_item.FlatItem.{FlatItem}
use Rattle.pam_dispatch.specs.Flat.{modules_of, runs_of}
use Rattle.pam_dispatch.specs.Runs.{Assignment, Runs, after_answer, asked_module, outcome_in}
use Rattle.pam_compare.specs.declared.held.HeldAnswer.{HeldAnswer}
use Rattle.pam_compare.specs.declared.turn.Turn.{Turn}
use Rattle.pam_compare.specs.declared.turn.Turn.TheVariants.{Old, New, Both}
use Rattle.pam_compare.specs.Names.{name_of}

-- WHOSE TURN IT IS

-- of a module of the old stack and one of the new stack, whether the one of the old stack is asked first
abbrev pub Order : Type 0
Order = ℕ → ℕ → Bool

-- whose turn it is, where the stacks ask these modules next. It is the turn of both, if they have one name
abbrev pub turn_of : List ℕ → Order → Option ℕ → Option ℕ → Option Turn
turn_of names old_first None None = None
turn_of names old_first None (Some j) = Some (New j)
turn_of names old_first (Some i) None = Some (Old i)
turn_of names old_first (Some i) (Some j) =
    if name_of names j == i then Some (Both i j) else if old_first i j then Some (Old i) else Some (New j)

-- the name of the module that is asked
abbrev pub turn_name : List ℕ → Turn → ℕ
turn_name names (Old i) = i
turn_name names (New j) = name_of names j
turn_name names (Both i j) = i

-- the answer of the module that is asked
abbrev pub turn_code : Turn → Assignment → Assignment → ℕ
turn_code (Old i) old_answers new_answers = old_answers i
turn_code (New j) old_answers new_answers = new_answers j
turn_code (Both i j) old_answers new_answers = old_answers i

-- what is left of the old stack's run after that answer
abbrev pub old_after : Turn → Runs → ℕ → Runs
old_after (Old i) runs code = after_answer runs code
old_after (New j) runs code = runs
old_after (Both i j) runs code = after_answer runs code

-- what is left of the new stack's run after that answer
abbrev pub new_after : Turn → Runs → ℕ → Runs
new_after (Old i) runs code = runs
new_after (New j) runs code = after_answer runs code
new_after (Both i j) runs code = after_answer runs code

-- WHAT AN ANSWER TELLS

-- two codes have the same outcome in each stack whose turn it is
abbrev pub HaveOneOutcome : Turn → Runs → Runs → ℕ → ℕ → Type 0
HaveOneOutcome (Old i) left right code other = outcome_in left code ≡ outcome_in left other
HaveOneOutcome (New j) left right code other = outcome_in right code ≡ outcome_in right other
HaveOneOutcome (Both i j) left right code other =
    (outcome_in left code ≡ outcome_in left other) × (outcome_in right code ≡ outcome_in right other)

-- what is held does not rule out this code for this name
abbrev pub IsLeft : List HeldAnswer → ℕ → ℕ → Type 0
IsLeft held name code = (i : ℕ) (h : HeldAnswer) → slice_get held i ≡ Some h → h.name ≡ name → IsTrue (is_in code h.codes)

module _ (names : List ℕ) (possible : List (List ℕ)) where
  -- THE CLASS of an answer: all codes that are possible, that what is held does not rule out, and that have the same outcomes
  pub record IsClass (left right : Runs) (held : List HeldAnswer) (turn : Turn) (code : ℕ) (class : List ℕ) : Type 0 where
    pub set : IsCodeSet class
    pub within : (d : ℕ) → IsTrue (is_in d class) → IsTrue (is_in d (slice_index_or possible (turn_name names turn) all_codes))
    pub kept : (d : ℕ) → IsTrue (is_in d class) → IsLeft held (turn_name names turn) d
    pub alike : (d : ℕ) → IsTrue (is_in d class) → HaveOneOutcome turn left right code d
    pub all : (d : ℕ) → d < 31 → IsTrue (is_in d (slice_index_or possible (turn_name names turn) all_codes)) →
        IsLeft held (turn_name names turn) d → HaveOneOutcome turn left right code d → IsTrue (is_in d class)

-- an answer tells something: some possible code is not one of its codes
unfoldable pub tells : List (List ℕ) → HeldAnswer → Bool
tells possible answer = list_any (λ c. is_in c (slice_index_or possible answer.name all_codes) && not (is_in c answer.codes)) all_codes

-- WHAT IS HELD

-- a run whose next module is `next` can still ask this one
abbrev pub may_ask : Option ℕ → ℕ → Bool
may_ask None number = false
may_ask (Some next) number = nat_le next number

module _ (names : List ℕ) (count modules : ℕ) where
  -- one of the stacks has yet to ask a module with this name, where they ask the modules `old` and `new` next. The old stack has
  -- `count` modules, and the new one `modules`
  unfoldable pub is_ahead : ℕ → Option ℕ → Option ℕ → Bool
  is_ahead name old new =
      (nat_le name count && may_ask old name) || list_any (λ j. name_of names j == name && may_ask new j) (range_with_len 1 modules)

  -- WHAT IS HELD after an answer: this answer, if it tells something, and then what was held of other modules; of all these only the
  -- answers of modules that a stack has yet to ask
  unfoldable pub held_after : List (List ℕ) → List HeldAnswer → HeldAnswer → Option ℕ → Option ℕ → List HeldAnswer
  held_after possible held answer old new =
      (if tells possible answer && is_ahead answer.name old new then answer ∷ [] else [])
      ++ filter (λ h. not (h.name == answer.name) && is_ahead h.name old new) held

-- THE WALK

module _ (old new : List FlatItem) (names : List ℕ) (possible : List (List ℕ)) (old_first : Order) (old_answers new_answers : Assignment) where
  -- one step: with `l` and `r` left of the runs and `h` held, the next answer is one of the class `answer`. After it `left` and `right`
  -- are left of the runs, and `held` is held
  pub record IsNextOf (l r : Runs) (h : List HeldAnswer) (answer : HeldAnswer) (left right : Runs) (held : List HeldAnswer) : Type 0 where
    pub turn : Turn
    pub turn_is : turn_of names old_first (asked_module l) (asked_module r) ≡ Some turn
    pub name_is : answer.name ≡ turn_name names turn
    pub class_is : IsClass names possible l r h turn (turn_code turn old_answers new_answers) answer.codes
    pub left_is : left ≡ old_after turn l (turn_code turn old_answers new_answers)
    pub right_is : right ≡ new_after turn r (turn_code turn old_answers new_answers)
    pub held_is : held ≡ held_after names (modules_of old) (modules_of new) possible h answer (asked_module left) (asked_module right)

  -- after answers of these classes, the latest first, `left` and `right` are left of the runs, and `held` is held
  unfoldable pub IsAfter : List HeldAnswer → Runs → Runs → List HeldAnswer → Type 0
  IsAfter [] left right held = (left ≡ runs_of old) × (right ≡ runs_of new) × (held ≡ [])
  IsAfter (answer ∷ answers) left right held =
      (l r : Runs) × (h : List HeldAnswer) × IsAfter answers l r h × IsNextOf l r h answer left right held
