-- The end of a run that no answer changes: pam.conf(5), DESCRIPTION, the actions of a control.
use Rattle.std.specs.Prelude.{◌≡◌, ℕ, ◌+◌, ◌-◌, ◌<◌, Bool, true, false}
use Rattle.pam_codes.specs.declared.action.Action.{Action}
use Rattle.pam_codes.specs.declared.action.Action.TheVariants.{Ignore, Ok, Done, Bad, Die, Reset, Jump}
use Rattle.pam_codes.specs.declared.code.TheConstants.{CODES}
use Rattle.pam_dispatch.specs.declared.state.State.{State}
use Rattle.pam_dispatch.specs.declared.step.Outcome.{Outcome}
use Rattle.pam_dispatch.specs.Runs.{Ask, Runs, ends, asks, outcome_of}

-- the outcome that changes nothing: the state stays, and all items are left
abbrev pub unchanged : Ask → State → Outcome
unchanged ask s = record { state = s; left = ask.after }

-- A SETTLED RUN: it asks `count` modules, numbered from `first` on, and ends in the state `s`, whatever they answer
unfoldable pub IsSettled : ℕ → ℕ → State → Runs → Type 0
IsSettled first count s (ends t) = (count ≡ 0) × (t ≡ s)
IsSettled first count s (asks ask next) =
    (0 < count) × (ask.module_number ≡ first) × ((code : ℕ) → code < CODES → outcome_of ask code ≡ unchanged ask s)
    × IsSettled (first + 1) (count - 1) s (next (unchanged ask s))

-- whether an action leaves a failed stack as it is, and continues with the next item
abbrev pub keeps_failure : Action → Bool
keeps_failure Ignore = true
keeps_failure Ok = true
keeps_failure Done = true
keeps_failure Bad = true
keeps_failure Die = false
keeps_failure Reset = false
keeps_failure (Jump items) = false
