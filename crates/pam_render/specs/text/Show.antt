-- The text of `show`: the stacks of a service, rule by rule, in the order of pam.conf(5).
use Rattle.std.specs.Prelude.{ℕ, Bool, true, false, List, ◌∷◌, [], ◌++◌, codes, decimal, replicate, ◌*◌}
use Rattle.std.specs.List.{concat, flat_map}
use Rattle.pam_codes.specs.ControlText.{control_text}
use Rattle.pam_conf.specs.Files.{Folder}
use Rattle.pam_conf.specs.Stack.{ModuleText, SubText}
use Rattle.pam_render.specs.parts.Items.{Head, Line, Module, Sub, stacks_lines}
use Rattle.pam_report.specs.Reply.{StackValue}
use Rattle.pam_render.specs.text.Header.{header_text, name_at}
use Rattle.pam_render.specs.text.WordText.{word_text}

-- two spaces for each level below the top
unfoldable pub indent : ℕ → List ℕ
indent level = replicate (2 * level) 32

-- `FILE:LINE`
unfoldable pub place_text : Folder → ℕ → ℕ → List ℕ
place_text files file line = concat (name_at files file ∷ codes ":" ∷ decimal line ∷ [])

-- the text before a control, with the dash of a dashed rule
abbrev pub dash_text : Bool → List ℕ
dash_text true = codes " - "
dash_text false = codes " "

-- words, with a space before each
abbrev pub words_text : List (List ℕ) → List ℕ
words_text words = flat_map (λ word. codes " " ++ word_text word) words

-- `NUMBER FILE:LINE ` at a level, with `- ` after it for a dashed rule
unfoldable pub module_front : Folder → ℕ → ModuleText → List ℕ
module_front files level m =
    indent level ++ concat (decimal m.number ∷ codes " " ∷ []) ++ place_text files m.file m.line ++ dash_text m.dashed

-- `NUMBER FILE:LINE CONTROL PATH ARGUMENT...`
unfoldable pub module_line : Folder → ℕ → ModuleText → List ℕ
module_line files level m =
    module_front files level m ++ control_text m.control ++ (codes " " ++ word_text m.path) ++ words_text m.arguments ++ codes "\n"

-- `sub FILE:LINE TARGET`
unfoldable pub sub_line : Folder → ℕ → SubText → List ℕ
sub_line files level s =
    indent level ++ codes "sub " ++ place_text files s.file s.line ++ concat (codes " " ∷ name_at files s.target ∷ codes "\n" ∷ [])

-- ONE LINE
abbrev pub line_text : Line → List ℕ
line_text (Head service kind modules) = header_text service kind modules
line_text (Module files level m) = module_line files level m
line_text (Sub files level s) = sub_line files level s

-- THE TEXT of `show`: which lines come, in which order, and at which level, says `stacks_lines`
abbrev pub stacks_text : List StackValue → List ℕ
stacks_text stacks = stacks_lines line_text stacks
