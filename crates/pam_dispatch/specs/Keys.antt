-- What tells the places of a run apart: pam.conf(5), DESCRIPTION.
use Rattle.std.specs.Prelude.{◌≢◌, ℕ, List, [], ◌∷◌, drop, take}
use Rattle.pam_dispatch.specs.declared.flat_item.FlatItem.{FlatItem}
use Rattle.pam_dispatch.specs.declared.place.Place.{Place}
use Rattle.pam_dispatch.specs.declared.state.State.{State}
use Rattle.pam_dispatch.specs.Flat.{resume}
use Rattle.pam_dispatch.specs.Runs.{Runs}

-- where a place is, the number of open lists, the state, and the entry states of these lists, outermost first
pub record KeyValue : Type 0 where
  pub position : ℕ
  pub depth : ℕ
  pub state : State
  pub entered : List State

-- THE KEY of a place
unfoldable pub key_of : Place → KeyValue
key_of place = record {
  position = place.position;
  depth = place.depth;
  state = place.state;
  entered = take place.depth place.entered.states;
}

-- the rest of the open run from the places with a key on
unfoldable pub rest_at : List FlatItem → KeyValue → Runs
rest_at program key = resume (drop key.position program) key.depth 0 key.entered key.state

-- a key is none of these
unfoldable pub DiffersFrom : KeyValue → List KeyValue → Type 0
DiffersFrom key [] = Unit {0}
DiffersFrom key (other ∷ others) = (key ≢ other) × DiffersFrom key others

-- no two keys are equal
unfoldable pub AreDifferent : List KeyValue → Type 0
AreDifferent [] = Unit {0}
AreDifferent (key ∷ keys) = DiffersFrom key keys × AreDifferent keys
