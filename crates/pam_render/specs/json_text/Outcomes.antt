-- The JSON of `outcomes`: a line for each decision, with the first path that ends in it, and a last line.
use Rattle.std.specs.Prelude.{ℕ, List, [], ◌∷◌, ◌++◌, codes, Option}
use Rattle.std.specs.List.{flat_map}
use Rattle.pam_codes.specs.SetText.{name_of}
use Rattle.pam_conf.specs.Stack.{Items, module_count}
use Rattle.pam_render.specs.json_lines.Line.{kind, line}
use Rattle.pam_render.specs.parts.Ways.{count_text}
use Rattle.pam_report.specs.Reply.{Outcome, OutcomesValue}
use Rattle.serde_json.specs.Data.{Data, string}
use Rattle.pam_render.specs.json_text.Header.{stack_members}
use Rattle.pam_render.specs.json_text.Steps.{cursor_string, steps_array}

-- a number of ways as a string, since it may have 39 digits
abbrev pub ways : Option ℕ → List ℕ × Data
ways count = (codes "ways", string (count_text count))

-- a decision, the number of ways to it, and the first of them
abbrev pub outcome_members : Items → Outcome → List (List ℕ × Data)
outcome_members items outcome =
    kind (codes "outcome") ∷ (codes "decision", string (name_of outcome.decision)) ∷ ways outcome.count
    ∷ (codes "cursor", cursor_string outcome.first) ∷ (codes "steps", steps_array items outcome.first.steps) ∷ []

unfoldable pub outcome_json : Items → Outcome → List ℕ
outcome_json items outcome = line (outcome_members items outcome)

-- the number of all ways
abbrev pub total_members : Option ℕ → List (List ℕ × Data)
total_members count = kind (codes "total") ∷ ways count ∷ []

-- THE JSON of `outcomes`
abbrev pub outcomes_json : OutcomesValue → List ℕ
outcomes_json value =
    line (stack_members value.service value.kind (module_count value.items)) ++ flat_map (outcome_json value.items) value.found
    ++ line (total_members value.total)
