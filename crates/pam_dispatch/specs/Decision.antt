-- The decision of a stack: pam.conf(5), DESCRIPTION.
use Rattle.std.specs.Prelude.{ℕ, ◌==◌, if◌then◌else◌}
use Rattle.pam_dispatch.specs.declared.state.Impression.{Impression}
use Rattle.pam_dispatch.specs.declared.state.Impression.TheVariants.{Undef, Positive, Negative}
use Rattle.pam_dispatch.specs.declared.state.State.{State}
use Rattle.pam_dispatch.specs.State.{success, perm_denied}

-- the status, or perm_denied for a success without a positive impression
abbrev pub decision_by : Impression → ℕ → ℕ
decision_by Positive status = status
decision_by Undef status = if status == success then perm_denied else status
decision_by Negative status = if status == success then perm_denied else status

-- the decision in a state at the end of a run
abbrev pub decision_of : State → ℕ
decision_of s = decision_by s.impression s.status
