-- The steps of a path, and its cursor: the modules that are asked, each with the answers that take the path.
use Rattle.std.specs.Prelude.{ℕ, List, ◌∷◌, [], codes, map}
use Rattle.pam_codes.specs.SetText.{name_of}
use Rattle.pam_conf.specs.Stack.{Items}
use Rattle.pam_render.specs.json_lines.Line.{items_of, members_of, readable}
use Rattle.pam_facts.specs.known.Answers.{name_of_path}
use Rattle.pam_paths.specs.CursorText.{cursor_text}
use Rattle.pam_paths.specs.Paths.{PathValue, StepValue, key}
use Rattle.pam_report.specs.Decide.{path_at}
use Rattle.serde_json.specs.Data.{Data, array, number, object, string, unsigned}

-- the name of a code as a string
abbrev pub code_string : ℕ → Data
code_string code = string (name_of code)

abbrev pub code_strings : List ℕ → Data
code_strings set = array (items_of (map code_string set))

-- a module that is asked, the name of its file, and the codes that take the path
abbrev pub step_members : Items → StepValue → List (List ℕ × Data)
step_members items step =
    (codes "number", number (unsigned step.module_number)) ∷ (codes "module", readable (name_of_path (path_at step.module_number items)))
    ∷ (codes "codes", code_strings step.class) ∷ []

unfoldable pub step_object : Items → StepValue → Data
step_object items step = object (members_of (step_members items step))

abbrev pub steps_array : Items → List StepValue → Data
steps_array items steps = array (items_of (map (step_object items) steps))

-- the cursor of a path
abbrev pub cursor_string : PathValue → Data
cursor_string path = string (cursor_text (key path))
