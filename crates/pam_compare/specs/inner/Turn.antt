-- For private contracts and proofs alone: whose turn it is, where two stacks run side by side.
use Rattle.std.specs.Prelude.{◌≡◌, ◌+◌, ℕ, List, Option, Some, nat_le}
use Rattle.pam_dispatch.specs.Runs.{Runs}
use Rattle.pam_compare.specs.declared.ranks.Ranks.{Ranks}
use Rattle.pam_compare.specs.declared.turn.Turn.{Turn}
use Rattle.pam_compare.specs.declared.turn.Turn.TheVariants.{Old, New, Both}
use Rattle.pam_compare.specs.Names.{name_of}
use Rattle.pam_compare.specs.Walks.{Order, new_after, old_after}

-- it can be the turn of a module that its stack asks next; of two at once only if they have one name
abbrev pub IsTurn : List ℕ → Option ℕ → Option ℕ → Turn → Type 0
IsTurn names old new (Old i) = old ≡ Some i
IsTurn names old new (New j) = new ≡ Some j
IsTurn names old new (Both i j) = (old ≡ Some i) × (new ≡ Some j) × (name_of names j ≡ i)

-- a module of the old stack is asked before one of the new stack, unless its rank is greater
abbrev pub first_of : Ranks → Order
first_of ranks i j = nat_le (name_of ranks.old.items i) (name_of ranks.new.items j)

-- a stack whose turn it is not stays where it is
abbrev pub StaysThere : Turn → Option ℕ → Option ℕ → Option ℕ → Option ℕ → Type 0
StaysThere (Old i) old_before new_before old new = new ≡ new_before
StaysThere (New j) old_before new_before old new = old ≡ old_before
StaysThere (Both i j) old_before new_before old new = Unit {0}

-- a stack whose turn it is goes on to the module after the one that is asked
abbrev pub PassesNoOther : Turn → Option ℕ → Option ℕ → Type 0
PassesNoOther (Old i) old new = old ≡ Some (i + 1)
PassesNoOther (New j) old new = new ≡ Some (j + 1)
PassesNoOther (Both i j) old new = (old ≡ Some (i + 1)) × (new ≡ Some (j + 1))

-- two codes are alike at a turn: the same is left of the runs after either
abbrev pub AreAlike : Turn → Runs → Runs → ℕ → ℕ → Type 0
AreAlike turn left right code other = (old_after turn left code ≡ old_after turn left other) × (new_after turn right code ≡ new_after turn right other)
