-- The places from which a run goes on equally: pam.conf(5), DESCRIPTION, the action reset.
use Rattle.std.specs.Prelude.{◌≡◌, ℕ, ◌+◌, ◌==◌, nat_lt, Bool, true, false, ◌&&◌, ◌||◌, if◌then◌else◌, List, [], ◌∷◌, drop}
use Rattle.std.specs.List.{list_any}
use Rattle.pam_codes.specs.declared.action.Action.{Action}
use Rattle.pam_codes.specs.declared.action.Action.TheVariants.{Ignore, Ok, Done, Bad, Die, Reset, Jump}
use Rattle.pam_dispatch.specs.declared.flat_item.FlatItem.{FlatItem}
use Rattle.pam_dispatch.specs.declared.flat_item.FlatItem.TheVariants.{Module, Substack}
use Rattle.pam_dispatch.specs.declared.place.Place.{Place}
use Rattle.pam_dispatch.specs.declared.state.State.{State}
use Rattle.pam_dispatch.specs.declared.step.Outcome.{Outcome}
use Rattle.pam_dispatch.specs.Flat.{level_of}
use Rattle.pam_dispatch.specs.Runs.{Runs, ends, asks, outcome_of}
use Rattle.pam_dispatch.specs.State.{start_state}

abbrev pub is_reset : Action → Bool
is_reset Reset = true
is_reset Ignore = false
is_reset Ok = false
is_reset Done = false
is_reset Bad = false
is_reset Die = false
is_reset (Jump items) = false

-- an item is a module that has the action reset for some code
abbrev pub resets : FlatItem → Bool
resets (Module here number control after) = list_any is_reset control
resets (Substack here) = false

-- whether a reset can still read the state in which the list at a level was entered: some item to come, directly in that list,
-- has one. An item of a lower level comes after the list
unfoldable pub is_read : ℕ → List FlatItem → Bool
is_read level [] = false
is_read level (item ∷ rest) =
    if nat_lt (level_of item) level then false else ((level_of item == level) && resets item) || is_read level rest

-- the entry states that can still be read, of the lists from a level on; each other one is the state in which a run begins
unfoldable pub read_states : ℕ → List FlatItem → List State → List State
read_states level rest [] = []
read_states level rest (s ∷ states) = (if is_read level rest then s else start_state) ∷ read_states (level + 1) rest states

-- THE REPRESENTATIVE of all places that differ only in entry states that no reset can read
unfoldable pub representative_of : List FlatItem → Place → Place
representative_of program place =
    record place { entered = record { states = read_states 0 (drop place.position program) place.entered.states } }

-- EQUAL RESTS of a run: both end in one state; or both ask one module in one state, each answer has one outcome, and after it the
-- rests are equal
unfoldable pub AreEqualRests : Runs → Runs → Type 0
AreEqualRests (ends s) (ends t) = s ≡ t
AreEqualRests (ends s) (asks ask next) = ⊥
AreEqualRests (asks ask next) (ends t) = ⊥
AreEqualRests (asks ask next) (asks other later) =
    (ask.module_number ≡ other.module_number) × (ask.state ≡ other.state) × ((code : ℕ) → outcome_of ask code ≡ outcome_of other code)
    × ((o : Outcome) → AreEqualRests (next o) (later o))
