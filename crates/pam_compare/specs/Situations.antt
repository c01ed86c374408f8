-- The situations that two stacks can be in while they run side by side: pam.conf(5).
use Rattle.std.specs.Prelude.{◌≡◌, ◌≢◌, ◌<◌, ◌≤◌, ◌+◌, ℕ, zero, suc, List, [], ◌∷◌, Option, Some, drop, length, slice_get}
use Rattle.std.specs.List.{AllPairs}
use Rattle.pam_dispatch.specs.declared.flat_item.FlatItem.{FlatItem}
use Rattle.pam_dispatch.specs.declared.flat_item.FlatItem.TheVariants.{Module, Substack}
use Rattle.pam_dispatch.specs.Flat.{modules_of, runs_of}
use Rattle.pam_dispatch.specs.Keys.{KeyValue, rest_at}
use Rattle.pam_dispatch.specs.Runs.{Assignment, Runs, ends, asks, outcome_of}
use Rattle.pam_paths.specs.Listing.{Allowance, IsAllowed}
use Rattle.pam_compare.specs.declared.held.HeldAnswer.{HeldAnswer}
use Rattle.pam_compare.specs.Agreement.{Agree}
use Rattle.pam_compare.specs.Held.{Holds}
use Rattle.pam_compare.specs.Names.{AreNames, ArePossible}
use Rattle.pam_compare.specs.Walks.{IsAfter, Order}

-- what is left of a run after this many answers
unfoldable pub after_steps : ℕ → Runs → Assignment → Runs
after_steps zero runs a = runs
after_steps (suc n) (ends s) a = ends s
after_steps (suc n) (asks ask next) a = after_steps n (next (outcome_of ask (a ask.module_number))) a

-- a run comes to a point at which this is left of it
abbrev pub Comes : Runs → Assignment → Runs → Type 0
Comes runs a rest = (n : ℕ) × (rest ≡ after_steps n runs a)

-- where both stacks are, and the answers of modules that one stack has asked and the other has yet to ask
pub record Standing : Type 0 where
  pub old : KeyValue
  pub new : KeyValue
  pub held : List HeldAnswer

-- a key that a place can have: at a module, with at most as many entry states as lists are open; or the key of the end
unfoldable pub IsKeyAt : List FlatItem → List FlatItem → KeyValue → Type 0
IsKeyAt program [] key = (key.position ≡ length program) × (key.depth ≡ 0) × (key.entered ≡ [])
IsKeyAt program (Module level number control after ∷ rest) key = (key.depth ≡ level + 1) × (length key.entered ≤ key.depth)
IsKeyAt program (Substack level ∷ rest) key = ⊥

abbrev pub IsKey : List FlatItem → KeyValue → Type 0
IsKey program key = IsKeyAt program (drop key.position program) key

module _ (old_allows new_allows : Allowance) (old new : List FlatItem) (partners : List (Option ℕ)) where
  -- A SITUATION IS REACHED: allowed answers that agree lead both stacks there, and what is held is what the walk holds after them
  pub record IsReached (names : List ℕ) (possible : List (List ℕ)) (old_first : Order) (s : Standing) : Type 0 where
    pub old_answers : Assignment
    pub new_answers : Assignment
    pub old_allowed : IsAllowed old_allows (modules_of old) old_answers
    pub new_allowed : IsAllowed new_allows (modules_of new) new_answers
    pub agree : Agree old_allows new_allows (modules_of old) (modules_of new) partners old_answers new_answers
    pub old_key : IsKey old s.old
    pub new_key : IsKey new s.new
    pub old_comes : Comes (runs_of old) old_answers (rest_at old s.old)
    pub new_comes : Comes (runs_of new) new_answers (rest_at new s.new)
    pub holds : Holds old_answers s.held
    pub answers : List HeldAnswer
    pub after : IsAfter old new names possible old_first old_answers new_answers answers (rest_at old s.old) (rest_at new s.new) s.held

  -- THERE ARE MORE SITUATIONS THAN A LIMIT: with one order of the modules, the walk of both stacks reaches more situations than that.
  -- No two of them are equal, and no two are reached by answers of the same classes. Tied modules have one name, and the codes that are
  -- possible for a name are those that are allowed to all its modules
  pub record HasMoreSituations (limit : ℕ) : Type 0 where
    pub names : List ℕ
    pub possible : List (List ℕ)
    pub old_first : Order
    pub are_names : AreNames old_allows new_allows (modules_of old) (modules_of new) partners names
    pub are_possible : ArePossible old_allows new_allows (modules_of old) (modules_of new) names possible
    pub standings : List Standing
    pub more : limit < length standings
    pub apart : AllPairs (λ one other. one ≢ other) standings
    pub reached : (k : ℕ) (s : Standing) → slice_get standings k ≡ Some s → IsReached names possible old_first s
    pub by_others : (j k : ℕ) (s t : Standing) (at : slice_get standings j ≡ Some s) (there : slice_get standings k ≡ Some t) →
        (reached j s at).answers ≡ (reached k t there).answers → j ≡ k
