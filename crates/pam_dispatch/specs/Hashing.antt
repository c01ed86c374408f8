-- What keys of places feed a hash function, and that equal keys feed it the same.
use Rattle.std.proofs.Common.{Bool, ◌&&◌, eqb}
use denote.Enum.Bare.{sameb}
use lib.Pointwise.{pointwise}
use Rattle.pam_dispatch.specs.contracts.state.Impression.{the_type}
use Rattle.std.specs.Prelude.{ℕ, ◌+◌, ◌*◌, ◌++◌, List}
use Rattle.std.specs.Hash as fed
use Rattle.std.specs.List.{flat_map}
use Rattle.pam_dispatch.specs.declared.state.State.{State}
use Rattle.pam_dispatch.specs.Keys.{KeyValue}
use Rattle.pam_dispatch.specs.State.{impression_number}

-- a state, as one number
abbrev pub state_input : State → List (List ℕ)
state_input s = fed.u8 (s.status * 4 + impression_number s.impression)

-- the position, the state, and the entry states of the open lists; the depth says nothing more
abbrev pub key_input : KeyValue → List (List ℕ)
key_input key = fed.usize key.position ++ state_input key.state ++ flat_map state_input key.entered

-- the test of states that is derived, and that of keys
abbrev pub same_state : State → State → Bool
same_state a b = sameb the_type a.impression b.impression && eqb a.status b.status

abbrev pub same_key : KeyValue → KeyValue → Bool
same_key a b =
    eqb a.position b.position
    && (eqb a.depth b.depth && (same_state a.state b.state && pointwise same_state a.entered b.entered))
