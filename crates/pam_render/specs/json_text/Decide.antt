-- The JSON of `decide`: the modules that a run asks, as in pam.conf(5), and the decision.
use Rattle.std.specs.Prelude.{ℕ, List, [], ◌∷◌, ◌++◌, codes, Option, None, Some}
use Rattle.std.specs.List.{flat_map}
use Rattle.std.specs.Str.Lossy.{utf8_lossy}
use Rattle.pam_codes.specs.SetText.{name_of}
use Rattle.pam_codes.specs.declared.action.Action.{Action}
use Rattle.pam_codes.specs.declared.action.Action.TheVariants as actions
use Rattle.pam_drawing.specs.Drawing.{impression_name}
use Rattle.pam_render.specs.json_lines.Line.{kind, line, number_or_null}
use Rattle.pam_report.specs.Decide.{AskedModule}
use Rattle.pam_report.specs.Reply.{RunValue}
use Rattle.serde_json.specs.Data.{Data, number, string, unsigned}
use Rattle.pam_render.specs.json_text.Header.{stack_members}

abbrev pub action_name : Action → List ℕ
action_name actions.Ignore = codes "ignore"
action_name actions.Ok = codes "ok"
action_name actions.Done = codes "done"
action_name actions.Bad = codes "bad"
action_name actions.Die = codes "die"
action_name actions.Reset = codes "reset"
action_name (actions.Jump items) = codes "jump"

-- how many items an action jumps over
abbrev pub jump_of : Action → Option ℕ
jump_of (actions.Jump items) = Some items
jump_of action = None

-- a module that is asked, its answer, the action for it, and the state after the action
abbrev pub step_members : AskedModule → List (List ℕ × Data)
step_members m =
    kind (codes "step") ∷ (codes "number", number (unsigned m.number)) ∷ (codes "path", string (utf8_lossy m.path))
    ∷ (codes "code", string (name_of m.code)) ∷ (codes "action", string (action_name m.action)) ∷ (codes "jump", number_or_null (jump_of m.action))
    ∷ (codes "impression", string (impression_name m.state.impression)) ∷ (codes "status", string (name_of m.state.status)) ∷ []

unfoldable pub step_json : AskedModule → List ℕ
step_json m = line (step_members m)

-- a line for each module that is asked
abbrev pub steps_json : List AskedModule → List ℕ
steps_json asked = flat_map step_json asked

abbrev pub decision_members : ℕ → List (List ℕ × Data)
decision_members code = kind (codes "decision") ∷ (codes "code", string (name_of code)) ∷ []

-- THE JSON of `decide`
abbrev pub run_json : RunValue → List ℕ
run_json run = line (stack_members run.service run.kind run.modules) ++ steps_json run.asked ++ line (decision_members run.decision)
