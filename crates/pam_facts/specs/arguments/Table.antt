-- The program's table of arguments, `TABLE`, a line for each module.
use Rattle.std.specs.Prelude.{ℕ, List, [], ◌∷◌, Option, Some, None, if◌then◌else◌}
use Rattle.std.specs.List.{filter_map}
use Rattle.std.specs.Option.{option_map, option_or}
use Rattle.std.specs.Str.{bytes_eq}
use Rattle.pam_conf.specs.declared.rule.Kind.{Kind}
use Rattle.pam_text.specs.Cut.{cut_at, is_among}
use Rattle.pam_facts.specs.arguments.Cuts.{parts_of}
use Rattle.pam_facts.specs.arguments.Modules.{module_of}
use Rattle.pam_facts.specs.arguments.Verdicts.{Meaning, Module, meaning}
use Rattle.pam_facts.specs.declared.arguments.table.TheConstants.{TABLE}

-- the lines of a text that have a name, and what comes after it
unfoldable pub lines_of : List ℕ → List (List ℕ × List ℕ)
lines_of text = filter_map (λ line. cut_at (is_among (32 ∷ [])) line) (parts_of 10 text)

-- the line of a module; of several with its name the last counts
abbrev pub line_named : List ℕ → List (List ℕ × List ℕ) → Option (List ℕ)
line_named name [] = None
line_named name (line ∷ lines) = option_or (line_named name lines) (if bytes_eq name line.0 then Some line.1 else None)

-- THE MODULE of a name, where something is known of its arguments
unfoldable pub module_named : List ℕ → Option Module
module_named name = option_map module_of (line_named name (lines_of TABLE.now))

-- THE VERDICT on an argument of a rule: of its module, by name, in its kind. None where nothing is known of the module
unfoldable pub verdict : List ℕ → Kind → List ℕ → Option Meaning
verdict name kind word = option_map (λ known. meaning known kind word) (module_named name)
