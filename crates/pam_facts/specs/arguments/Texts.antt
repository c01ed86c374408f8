-- The table of arguments as rows of a facts file, one for each argument that a module knows: NAME knows ARGUMENT KIND,...
use Rattle.std.specs.Prelude.{ℕ, List, [], ◌∷◌, ◌++◌, codes}
use Rattle.pam_facts.specs.arguments.Modules.{module_of}
use Rattle.pam_facts.specs.arguments.Rows.{Row}
use Rattle.pam_facts.specs.arguments.Table.{lines_of}
use Rattle.pam_facts.specs.arguments.Verdicts.{Module, or_else}
use Rattle.pam_facts.specs.declared.arguments.table.TheConstants.{TABLE}

-- an argument that a module with these kinds knows
abbrev pub row_line : List ℕ → List ℕ → Row → List ℕ
row_line name kinds row = name ++ (codes " knows " ++ (row.argument ++ (codes " " ++ (or_else row.kinds kinds ++ codes "\n"))))

abbrev pub rows_text : List ℕ → List ℕ → List Row → List ℕ
rows_text name kinds [] = []
rows_text name kinds (row ∷ rows) = row_line name kinds row ++ rows_text name kinds rows

-- the arguments of a module
abbrev pub module_text : List ℕ → Module → List ℕ
module_text name known = rows_text name known.kinds known.rows

-- those of the modules of lines
abbrev pub lines_text : List (List ℕ × List ℕ) → List ℕ
lines_text [] = []
lines_text (line ∷ lines) = module_text line.0 (module_of line.1) ++ lines_text lines

-- THE TABLE OF ARGUMENTS, a row a line
unfoldable pub arguments_text : List ℕ
arguments_text = lines_text (lines_of TABLE.now)
