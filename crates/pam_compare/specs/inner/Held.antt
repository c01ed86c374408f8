-- For private contracts and proofs alone: what is held, the answers of modules that one stack has asked and the other has yet to ask.
use Rattle.std.specs.Prelude.{◌≡◌, ◌+◌, ◌<◌, ◌==◌, ◌&&◌, ℕ, Bool, IsTrue, List, ◌++◌, Option, Some, drop, length, nat_eq, not, slice_get, unwrap_or}
use Rattle.pam_codes.specs.SetBits.{codes_of_bits}
use Rattle.pam_codes.specs.inner.SetBits.{bits_of_codes}
use Rattle.pam_compare.specs.declared.held.HeldAfter.{HeldAfter}
use Rattle.pam_compare.specs.declared.held.HeldAnswer.{HeldAnswer}
use Rattle.pam_compare.specs.declared.naming.Naming.{Naming}
use Rattle.pam_compare.specs.declared.situation.Situation.{Situation}
use Rattle.pam_compare.specs.declared.turn.Turn.{Turn}
use Rattle.pam_compare.specs.Walks.{is_ahead, turn_name}
use Rattle.pam_compare.specs.inner.Naming.{AreFound, AreLast}
use Rattle.pam_compare.specs.inner.Turn.{IsTurn, StaysThere}

-- what is held after an answer, where these answers were held before it
abbrev pub held_in : HeldAfter → List HeldAnswer → List HeldAnswer
held_in after held = after.latest.items ++ drop after.start held

-- the derived tests of equality
abbrev pub same_held : HeldAnswer → HeldAnswer → Bool
same_held a b = nat_eq a.name b.name && nat_eq (bits_of_codes a.codes) (bits_of_codes b.codes)

abbrev pub same_situation : Situation → Situation → Bool
same_situation a b = nat_eq a.old b.old && (nat_eq a.new b.new && nat_eq a.held b.held)

-- the least code of a set, by its bits; 31 if there is none
abbrev pub least_of_bits : ℕ → ℕ
least_of_bits bits = unwrap_or (slice_get (codes_of_bits bits) 0) 31

-- the tables of the names of the new stack, which has this many modules
pub record AreTables (naming : Naming) (modules : ℕ) : Type 0 where
  pub names : length naming.names.items ≡ modules + 1
  pub last : AreLast naming.names.items naming.last.items
  pub found : AreFound naming.names.items naming.last.items

-- the number of a module that is asked next is 1 or more
abbrev pub IsNumber : Option ℕ → Type 0
IsNumber next = (i : ℕ) → next ≡ Some i → 0 < i

-- the held answer of a name is still held after an answer of the name `answered`
abbrev pub is_wanted : List ℕ → ℕ → ℕ → ℕ → Option ℕ → Option ℕ → ℕ → Bool
is_wanted names count modules answered old new name = not (name == answered) && is_ahead names count modules name old new

-- all held answers are of modules that a stack has yet to ask
unfoldable pub AreAhead : List ℕ → ℕ → ℕ → List HeldAnswer → Option ℕ → Option ℕ → Type 0
AreAhead names count modules held old new =
    (i : ℕ) (h : HeldAnswer) → slice_get held i ≡ Some h → IsTrue (is_ahead names count modules h.name old new)

-- the stacks have just made a step at this turn, before which they asked `old_before` and `new_before` next. All answers that were
-- held then were of modules that a stack had yet to ask
pub record IsStepFrom (names : List ℕ) (count modules : ℕ) (held : List HeldAnswer) (name : ℕ) (turn : Turn)
    (old_before new_before old new : Option ℕ) : Type 0 where
  pub turn_is : IsTurn names old_before new_before turn
  pub name_is : name ≡ turn_name names turn
  pub stays : StaysThere turn old_before new_before old new
  pub ahead : AreAhead names count modules held old_before new_before
