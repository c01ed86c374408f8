-- The text of `access` and `time`: the line of a table that decides, as in pam_access(8) and pam_time(8).
use Rattle.std.specs.Prelude.{ℕ, List, [], ◌∷◌, ◌++◌, codes, decimal, Option, Some, None}
use Rattle.std.specs.List.{concat}
use Rattle.pam_render.specs.sentences.Shown.{shown_name}
use Rattle.pam_tables.specs.declared.access.AccessAnswer.{AccessAnswer}
use Rattle.pam_tables.specs.declared.access.AccessAnswer.TheVariants as access
use Rattle.pam_tables.specs.declared.times.table.TimeAnswer.{TimeAnswer}
use Rattle.pam_tables.specs.declared.times.table.TimeAnswer.TheVariants as times

-- the end of a line that is in a table with this name
abbrev pub of_name : List ℕ → List ℕ
of_name table = codes " of " ++ shown_name table ++ codes "\n"

-- the table of a line, where several are given
abbrev pub of_table : Option (List ℕ) → List ℕ
of_table None = codes "\n"
of_table (Some table) = of_name table

abbrev pub line_text : List ℕ → ℕ → List ℕ
line_text verdict line = concat (verdict ∷ codes " line " ∷ decimal line ∷ [])

abbrev pub verdict_text : List ℕ → ℕ → Option (List ℕ) → List ℕ
verdict_text verdict line table = line_text verdict line ++ of_table table

-- THE TEXT of `access`, with the name of the table where several are given
unfoldable pub access_text : AccessAnswer → Option (List ℕ) → List ℕ
access_text (access.Granted None) table = codes "granted no line\n"
access_text (access.Granted (Some line)) table = verdict_text (codes "granted") line table
access_text (access.Denied line) table = verdict_text (codes "denied") line table

abbrev pub denied_text : ℕ → List ℕ
denied_text line = concat (codes "denied line " ∷ decimal line ∷ codes "\n" ∷ [])

unfoldable pub time_text : TimeAnswer → List ℕ
time_text times.Granted = codes "granted\n"
time_text (times.Denied line) = denied_text line
