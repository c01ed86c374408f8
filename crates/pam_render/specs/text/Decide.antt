-- The text of `decide`: the modules that a run asks, as in pam.conf(5), and the decision.
use Rattle.std.specs.Prelude.{ℕ, List, ◌∷◌, [], ◌++◌, codes, decimal}
use Rattle.std.specs.List.{concat, flat_map}
use Rattle.pam_codes.specs.SetText.{name_of}
use Rattle.pam_codes.specs.declared.action.Action.{Action}
use Rattle.pam_codes.specs.declared.action.Action.TheVariants.{Jump}
use Rattle.pam_codes.specs.Action.{action_text as word_of_action}
use Rattle.pam_dispatch.specs.declared.state.State.{State}
use Rattle.pam_drawing.specs.Drawing.{impression_name}
use Rattle.pam_report.specs.Decide.{AskedModule}
use Rattle.pam_report.specs.Reply.{RunValue}
use Rattle.pam_render.specs.text.Header.{header_text}
use Rattle.pam_render.specs.text.WordText.{word_text}

-- an action as in a control; a jump is written after `jump:`
unfoldable pub action_text : Action → List ℕ
action_text (Jump items) = codes "jump:" ++ word_of_action (Jump items)
action_text action = word_of_action action

-- `NUMBER PATH`
unfoldable pub path_text : ℕ → List ℕ → List ℕ
path_text number path = concat (decimal number ∷ codes " " ∷ []) ++ word_text path

-- ` CODE `
unfoldable pub code_text : ℕ → List ℕ
code_text code = concat (codes " " ∷ name_of code ∷ codes " " ∷ [])

-- ` IMPRESSION STATUS` and a line feed
unfoldable pub state_text : State → List ℕ
state_text s = concat (codes " " ∷ impression_name s.impression ∷ codes " " ∷ name_of s.status ∷ codes "\n" ∷ [])

-- ` CODE ACTION IMPRESSION STATUS`, with the state after the action
unfoldable pub outcome_text : ℕ → Action → State → List ℕ
outcome_text code action s = code_text code ++ action_text action ++ state_text s

-- `NUMBER PATH CODE ACTION IMPRESSION STATUS`
unfoldable pub asked_text : AskedModule → List ℕ
asked_text m = path_text m.number m.path ++ outcome_text m.code m.action m.state

-- the trace of a run: a line for each module that is asked
abbrev pub trace_text : List AskedModule → List ℕ
trace_text modules = flat_map asked_text modules

-- `decision CODE`
unfoldable pub decision_text : ℕ → List ℕ
decision_text code = concat (codes "decision " ∷ name_of code ∷ codes "\n" ∷ [])

-- THE TEXT of `decide`
abbrev pub run_text : RunValue → List ℕ
run_text run = header_text run.service run.kind run.modules ++ trace_text run.asked ++ decision_text run.decision
