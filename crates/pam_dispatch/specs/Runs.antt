-- A run through a stack whose answers are still open: pam.conf(5), DESCRIPTION.
use Rattle.std.specs.Prelude.{ℕ, ◌-◌, ◌<◌, ◌≤◌, List, [], ◌∷◌, Option, Some, None, slice_index_or}
use Rattle.pam_codes.specs.declared.action.Action.{Action}
use Rattle.pam_dispatch.specs.declared.asked.Situation.{Situation}
use Rattle.pam_dispatch.specs.declared.state.State.{State}
use Rattle.pam_dispatch.specs.declared.step.Outcome.{Outcome}
use Rattle.pam_dispatch.specs.State.{act, left_of, action_of}

-- the answer of each module, by its number
abbrev pub Assignment : Type 0
Assignment = ℕ → ℕ

-- the assignment of a list of codes: the first is the answer of module 1
abbrev pub answers_of : List ℕ → Assignment
answers_of codes number = slice_index_or codes (number - 1) 0

-- a module as it is asked: its number and control, the state, the state in which its list was entered, and the number
-- of items after it in the list
pub record Ask : Type 0 where
  pub module_number : ℕ
  pub control : List Action
  pub state : State
  pub entry : State
  pub after : ℕ

-- the situation in which a module is asked: what its outcomes depend on, besides the control
abbrev pub situation_of : Ask → Situation
situation_of ask = record { state = ask.state; entry = ask.entry; items_after = ask.after }

-- the outcome of an answer: the new state, and the number of items left in the list
unfoldable pub outcome_of : Ask → ℕ → Outcome
outcome_of ask code = record {
  state = act (action_of ask.control code) code ask.state ask.entry ask.after;
  left = left_of (action_of ask.control code) code ask.state ask.after;
}

-- an open run: it ends in a state, or asks a module and continues by the outcome
pub data Runs : Type 0 where
  ends : State → Runs
  asks : Ask → (Outcome → Runs) → Runs

-- the state in which a run ends under an assignment
unfoldable pub final_state : Runs → Assignment → State
final_state (ends s) answers = s
final_state (asks ask next) answers = final_state (next (outcome_of ask (answers ask.module_number))) answers

-- the modules asked on the way
unfoldable pub asked_by : Runs → Assignment → List Ask
asked_by (ends s) answers = []
asked_by (asks ask next) answers = ask ∷ asked_by (next (outcome_of ask (answers ask.module_number))) answers

-- the numbers of the modules that a run asks rise strictly; they are above `low` and at most `high`
unfoldable pub AsksRise : ℕ → ℕ → Runs → Type 0
AsksRise low high (ends s) = Unit {0}
AsksRise low high (asks ask next) =
    (low < ask.module_number) × (ask.module_number ≤ high) × ((o : Outcome) → AsksRise ask.module_number high (next o))

-- the module that a run asks next
abbrev pub asked_module : Runs → Option ℕ
asked_module (ends s) = None
asked_module (asks ask next) = Some ask.module_number

-- the module as it is asked; without meaning for a run that ends
abbrev pub next_ask : Runs → Ask
next_ask (ends s) = record { module_number = 0; control = []; state = s; entry = s; after = 0 }
next_ask (asks ask next) = ask

-- the current state of a run
abbrev pub state_in : Runs → State
state_in (ends s) = s
state_in (asks ask next) = ask.state

-- the run after an answer, and the outcome of the answer
abbrev pub after_answer : Runs → ℕ → Runs
after_answer (ends s) code = ends s
after_answer (asks ask next) code = next (outcome_of ask code)

abbrev pub outcome_in : Runs → ℕ → Outcome
outcome_in (ends s) code = record { state = s; left = 0 }
outcome_in (asks ask next) code = outcome_of ask code
