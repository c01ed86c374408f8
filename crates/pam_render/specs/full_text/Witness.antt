-- The way in of S2 as a table, a line for each module that is asked: its number, the file and the line of its rule, its name and its answer.
use Rattle.std.specs.Prelude.{ℕ, ◌+◌, ◌-◌, max, min, List, [], ◌∷◌, ◌++◌, codes, decimal, length, map, slice_index_or, take, Option, None, Some}
use Rattle.std.specs.List.{concat, flat_map}
use Rattle.std.specs.Option.{option_map_or}
use Rattle.pam_codes.specs.SetText.{name_of}
use Rattle.pam_conf.specs.Stack.{Items, ModuleText, module_at}
use Rattle.pam_facts.specs.known.Answers.{name_of_path}
use Rattle.pam_findings.specs.declared.host.met.Met.{Met}
use Rattle.pam_findings.specs.declared.host.problem.Problem.{Problem}
use Rattle.pam_findings.specs.declared.host.problem.Problem.TheVariants as problems
use Rattle.pam_findings.specs.declared.host.way_in.Answered.{Answered}
use Rattle.pam_findings.specs.declared.host.way_in.WayIn.{WayIn}
use Rattle.pam_render.specs.declared.full_text.window.TheConstants.{MAX_BYTES, MAX_COLUMNS}
use Rattle.pam_render.specs.full_text.Cells.{cells, cells_text, first_within, width}
use Rattle.pam_render.specs.full_text.Excerpt.{spaces}
use Rattle.pam_render.specs.parts.Check.{Names, path_of}

-- what is shown of a name, as of a line, in 72 columns at most, and in how many
abbrev pub shown : List ℕ → List ℕ
shown name = cells_text (first_within MAX_COLUMNS (cells 0 (take MAX_BYTES name)))

abbrev pub shown_width : List ℕ → ℕ
shown_width name = min MAX_COLUMNS (width (cells 0 (take MAX_BYTES name)))

-- A ROW: a module, where its rule is, and what it answers
pub record Row : Type 0 where
  pub number : ℕ
  pub path : List ℕ
  pub line : ℕ
  pub name : List ℕ
  pub code : ℕ

abbrev pub row_of_module : List (List ℕ) → Answered → ModuleText → Row
row_of_module paths answer m = record {
  number = answer.number;
  path = path_of paths (Some m.file);
  line = m.line;
  name = name_of_path m.path;
  code = answer.code;
}

abbrev pub no_row : Answered → Row
no_row answer = record { number = answer.number; path = []; line = 0; name = []; code = answer.code }

abbrev pub row_of : List (List ℕ) → Items → Answered → Row
row_of paths items answer = option_map_or (row_of_module paths answer) (module_at answer.number items) (no_row answer)

-- THE COLUMNS, each as wide as the widest of its cells: the number, `FILE:LINE` and the name
abbrev pub number_width : Row → ℕ
number_width row = length (decimal row.number)

abbrev pub place_width : Row → ℕ
place_width row = shown_width row.path + (1 + length (decimal row.line))

abbrev pub name_width : Row → ℕ
name_width row = shown_width row.name

unfoldable pub widest : (Row → ℕ) → List Row → ℕ
widest width [] = 0
widest width (row ∷ rows) = max (width row) (widest width rows)

-- A LINE, with columns of these widths
unfoldable pub row_line : ℕ → ℕ → ℕ → Row → List ℕ
row_line number place name row = concat
    (codes "  " ∷ decimal row.number ∷ spaces (number - number_width row)
    ∷ codes "  " ∷ shown row.path ∷ codes ":" ∷ decimal row.line ∷ spaces (place - place_width row)
    ∷ codes "  " ∷ shown row.name ∷ spaces (name - name_width row)
    ∷ codes "  " ∷ name_of row.code ∷ codes "\n" ∷ [])

-- in a table of these rows
abbrev pub row_text : List Row → Row → List ℕ
row_text rows row = row_line (widest number_width rows) (widest place_width rows) (widest name_width rows) row

-- THE TABLE, and an empty line
abbrev pub table_of : List Row → List ℕ
table_of rows = flat_map (row_text rows) rows ++ codes "\n"

abbrev pub rows_of : List (List ℕ) → WayIn → List Row
rows_of paths way = map (row_of paths way.stack) way.answers.items

abbrev pub way_table : List (List ℕ) → Option WayIn → List ℕ
way_table paths way = option_map_or (λ w. table_of (rows_of paths w)) way []

-- that of the first service that meets a problem
abbrev pub first_table : Names → Option Met → List ℕ
first_table names met = option_map_or (λ m. way_table names.paths (slice_index_or names.ways_in m.first None)) met []

-- THE WITNESS of a problem: S2 has one
abbrev pub witness : Names → Option Met → Problem → List ℕ
witness names met (problems.LetsAnybodyIn service is_greeter) = first_table names met
witness names met problem = []
