-- The text of `outcomes`: a line for each decision, with the first path that ends in it, and a last line.
use Rattle.std.specs.Prelude.{ℕ, List, [], ◌∷◌, ◌++◌, codes, Option}
use Rattle.std.specs.List.{flat_map}
use Rattle.pam_codes.specs.SetText.{name_of, set_text}
use Rattle.pam_conf.specs.Stack.{Items, module_count}
use Rattle.pam_facts.specs.known.Answers.{name_of_path}
use Rattle.pam_render.specs.parts.Ways.{count_text}
use Rattle.pam_paths.specs.CursorText.{cursor_text}
use Rattle.pam_paths.specs.Paths.{StepValue, key}
use Rattle.pam_report.specs.Decide.{path_at}
use Rattle.pam_report.specs.Reply.{Outcome, OutcomesValue}
use Rattle.pam_render.specs.text.Header.{header_text}
use Rattle.pam_render.specs.text.WordText.{shown_word_text}

-- `NAME CLASS`: the name of the module's file, and the class of its answer
unfoldable pub named_step : Items → StepValue → List ℕ
named_step items step = codes " " ++ shown_word_text (name_of_path (path_at step.module_number items)) ++ codes " " ++ set_text step.class

abbrev pub next_step : Items → StepValue → List ℕ
next_step items step = codes "," ++ named_step items step

-- `: NAME CLASS, NAME CLASS`
unfoldable pub named_steps : Items → List StepValue → List ℕ
named_steps items [] = []
named_steps items (step ∷ steps) = (codes ":" ++ named_step items step) ++ flat_map (next_step items) steps

-- `DECISION COUNT ways, first CURSOR: STEPS`
unfoldable pub outcome_line : Items → Outcome → List ℕ
outcome_line items outcome =
    name_of outcome.decision ++ codes " " ++ count_text outcome.count ++ codes " ways, first " ++ cursor_text (key outcome.first)
    ++ named_steps items outcome.first.steps ++ codes "\n"

-- `total COUNT ways`
unfoldable pub total_line : Option ℕ → List ℕ
total_line count = codes "total " ++ count_text count ++ codes " ways\n"

-- THE TEXT of `outcomes`
abbrev pub outcomes_text : OutcomesValue → List ℕ
outcomes_text value =
    header_text value.service value.kind (module_count value.items) ++ flat_map (outcome_line value.items) value.found ++ total_line value.total
