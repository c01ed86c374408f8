-- What the code of an answer determines besides its action: pam.conf(5), DESCRIPTION, the actions of a control.
use Rattle.std.specs.Prelude.{◌≡◌, ◌⊎◌, ℕ, ◌==◌, ◌&&◌, Bool, true, false, IsTrue, if◌then◌else◌}
use Rattle.pam_codes.specs.declared.action.Action.{Action}
use Rattle.pam_codes.specs.declared.action.Action.TheVariants.{Ignore, Ok, Done, Bad, Die, Reset, Jump}
use Rattle.pam_dispatch.specs.declared.state.Impression.{Impression}
use Rattle.pam_dispatch.specs.declared.state.Impression.TheVariants.{Undef, Positive, Negative}
use Rattle.pam_dispatch.specs.declared.state.State.{State}
use Rattle.pam_dispatch.specs.declared.step.Outcome.{Outcome}
use Rattle.pam_dispatch.specs.State.{ignored, perm_denied, success}

-- whether the code of ok or done becomes the status: in undef, and after a success
abbrev pub takes_accepted : Impression → ℕ → Bool
takes_accepted Undef status = true
takes_accepted Positive status = status == success
takes_accepted Negative status = false

-- whether the code of bad or die becomes the status: the first does
abbrev pub takes_refused : Impression → Bool
takes_refused Undef = true
takes_refused Positive = true
takes_refused Negative = false

-- whether the status after an action comes from the code
abbrev pub looks_at_code : Action → State → Bool
looks_at_code Ignore s = false
looks_at_code Ok s = takes_accepted s.impression s.status
looks_at_code Done s = takes_accepted s.impression s.status
looks_at_code Bad s = takes_refused s.impression
looks_at_code Die s = takes_refused s.impression
looks_at_code Reset s = false
looks_at_code (Jump items) s = false

-- whether an action fails the stack
abbrev pub fails : Action → Bool
fails Ignore = false
fails Ok = false
fails Done = false
fails Bad = true
fails Die = true
fails Reset = false
fails (Jump items) = false

-- the status that comes from a code: the code itself, but perm_denied if ignore fails the stack
abbrev pub told_status : Action → ℕ → ℕ
told_status action code = if fails action && code == ignored then perm_denied else code

-- the outcome of a code in a state, from that of another code with the same action
abbrev pub retold : Action → State → Outcome → ℕ → Outcome
retold action s known code =
    if looks_at_code action s then record {
      state = record { impression = known.state.impression; status = told_status action code };
      left = known.left;
    }
    else known

-- the code fails the stack with the status perm_denied
abbrev pub IsDenial : Action → ℕ → Type 0
IsDenial action code = IsTrue (fails action) × ((code ≡ perm_denied) ⊎ (code ≡ ignored))
