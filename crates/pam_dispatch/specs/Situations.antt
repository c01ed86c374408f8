-- The situations in which the same answers are alike: pam.conf(5), DESCRIPTION, the actions of a control.
use Rattle.std.specs.Prelude.{ℕ, ◌==◌, Bool, if◌then◌else◌}
use Rattle.pam_dispatch.specs.declared.asked.Situation.{Situation}
use Rattle.pam_dispatch.specs.declared.state.Impression.{Impression}
use Rattle.pam_dispatch.specs.declared.state.Impression.TheVariants.{Undef, Positive, Negative}
use Rattle.pam_dispatch.specs.declared.state.State.{State}
use Rattle.pam_dispatch.specs.State.{perm_denied, start_state, state_with, success}

-- the status as far as it tells answers apart, from the impression, that of the state in which the list was entered, and
-- the status: once the stack has failed, only perm_denied differs from the others, since a jump past the end gives it
abbrev pub status_told : Impression → Impression → ℕ → ℕ
status_told Undef entry status = status
status_told Positive entry status = status
status_told Negative Undef status = if status == perm_denied then perm_denied else success
status_told Negative Positive status = if status == perm_denied then perm_denied else success
status_told Negative Negative status = status

-- the state in which the list was entered, as far as answers depend on it: if no code of the control has the action reset, it is
-- that in which a run begins
abbrev pub entry_told : Bool → State → State
entry_told resets entry = if resets then entry else start_state

-- the situation that represents all those in which the same answers are alike, by whether the control has the action reset
abbrev pub representative : Bool → Situation → Situation
representative resets s = record {
  state = state_with s.state.impression (status_told s.state.impression (entry_told resets s.entry).impression s.state.status);
  entry = entry_told resets s.entry;
  items_after = s.items_after;
}
