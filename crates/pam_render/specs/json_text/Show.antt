-- The JSON of `show`: the stacks of a service, rule by rule, in the order of pam.conf(5).
use Rattle.std.specs.Prelude.{ℕ, List, ◌∷◌, [], codes}
use Rattle.pam_codes.specs.ControlText.{control_text}
use Rattle.pam_conf.specs.Files.{Folder}
use Rattle.pam_conf.specs.Stack.{ModuleText, SubText}
use Rattle.pam_render.specs.json_lines.Line.{kind, line, readable, strings}
use Rattle.pam_render.specs.parts.Files.{name_at}
use Rattle.pam_render.specs.parts.Items.{Head, Line, Module, Sub, stacks_lines}
use Rattle.pam_report.specs.Reply.{StackValue}
use Rattle.serde_json.specs.Data.{Data, boolean, number, string, unsigned}
use Rattle.pam_render.specs.json_text.Header.{stack_members}

-- a rule with a module, nested in this number of substacks
abbrev pub module_members : Folder → ℕ → ModuleText → List (List ℕ × Data)
module_members files depth m =
    kind (codes "module") ∷ (codes "depth", number (unsigned depth)) ∷ (codes "number", number (unsigned m.number))
    ∷ (codes "file", readable (name_at files m.file)) ∷ (codes "line", number (unsigned m.line)) ∷ (codes "dashed", boolean m.dashed)
    ∷ (codes "control", string (control_text m.control)) ∷ (codes "path", readable m.path) ∷ (codes "arguments", strings m.arguments) ∷ []

unfoldable pub module_json : Folder → ℕ → ModuleText → List ℕ
module_json files depth m = line (module_members files depth m)

-- the rule of a substack, and the file that it reads
abbrev pub sub_members : Folder → ℕ → SubText → List (List ℕ × Data)
sub_members files depth s =
    kind (codes "substack") ∷ (codes "depth", number (unsigned depth)) ∷ (codes "file", readable (name_at files s.file))
    ∷ (codes "line", number (unsigned s.line)) ∷ (codes "target", readable (name_at files s.target)) ∷ []

unfoldable pub sub_json : Folder → ℕ → SubText → List ℕ
sub_json files depth s = line (sub_members files depth s)

-- ONE LINE
abbrev pub line_json : Line → List ℕ
line_json (Head service kind modules) = line (stack_members service kind modules)
line_json (Module files level m) = module_json files level m
line_json (Sub files level s) = sub_json files level s

-- THE JSON of `show`: which lines come, in which order, and in how many substacks, says `stacks_lines`
abbrev pub stacks_json : List StackValue → List ℕ
stacks_json stacks = stacks_lines line_json stacks
