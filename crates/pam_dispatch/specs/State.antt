-- The effect of an action on the state of a run: pam.conf(5), DESCRIPTION, the actions of a control.
use Rattle.std.specs.Prelude.{ℕ, ◌-◌, ◌==◌, nat_le, if◌then◌else◌, List, slice_index_or}
use Rattle.pam_codes.specs.declared.action.Action.{Action}
use Rattle.pam_codes.specs.declared.action.Action.TheVariants.{Ignore, Ok, Done, Bad, Die, Reset, Jump}
use Rattle.pam_dispatch.specs.declared.state.Impression.{Impression}
use Rattle.pam_dispatch.specs.declared.state.Impression.TheVariants.{Undef, Positive, Negative}
use Rattle.pam_dispatch.specs.declared.state.State.{State}
-- the codes that the rules name
pub use Rattle.pam_codes.specs.Code.{success, perm_denied, ignored}

-- impressions, numbered
abbrev pub impression_number : Impression → ℕ
impression_number Undef = 0
impression_number Positive = 1
impression_number Negative = 2

-- a state, by its parts
abbrev pub state_with : Impression → ℕ → State
state_with impression status = record { impression = impression; status = status }

-- the state in which a run begins
abbrev pub start_state : State
start_state = state_with Undef perm_denied

-- the state after ok or done: the code counts in undef, and after a success
abbrev pub accepted : Impression → ℕ → ℕ → State
accepted Undef status code = state_with Positive code
accepted Positive status code = if status == success then state_with Positive code else state_with Positive status
accepted Negative status code = state_with Negative status

-- the state after bad or die: the first code counts, and ignore counts as perm_denied
abbrev pub refused : Impression → ℕ → ℕ → State
refused Negative status code = state_with Negative status
refused Undef status code = state_with Negative (if code == ignored then perm_denied else code)
refused Positive status code = state_with Negative (if code == ignored then perm_denied else code)

-- the state after a module, from the action, the code, the state before, the state in which its list was
-- entered, and the number of items after it in its list
abbrev pub act : Action → ℕ → State → State → ℕ → State
act Ignore code s entry after = s
act Ok code s entry after = accepted s.impression s.status code
act Done code s entry after = accepted s.impression s.status code
act Bad code s entry after = refused s.impression s.status code
act Die code s entry after = refused s.impression s.status code
act Reset code s entry after = entry
act (Jump items) code s entry after = if nat_le items after then s else state_with Negative perm_denied

-- the items left by done: none if the impression is positive, else all
abbrev pub left_unless_positive : Impression → ℕ → ℕ
left_unless_positive Positive after = 0
left_unless_positive Undef after = after
left_unless_positive Negative after = after

-- the number of items left after the module
abbrev pub left_of : Action → ℕ → State → ℕ → ℕ
left_of Ignore code s after = after
left_of Ok code s after = after
left_of Bad code s after = after
left_of Reset code s after = after
left_of Die code s after = 0
left_of Done code s after = left_unless_positive (accepted s.impression s.status code).impression after
left_of (Jump items) code s after = if nat_le items after then after - items else 0

-- the action of a code in a control
abbrev pub action_of : List Action → ℕ → Action
action_of control code = slice_index_or control code Ignore
