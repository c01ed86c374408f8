-- S8: the lines of the accept file and of the facts file that say nothing of a host.
use Rattle.std.specs.Prelude.{ℕ, ◌||◌, not, List, [], ◌∷◌, ◌++◌, codes, drop, filter_map, map, nat_eq, take, if◌then◌else◌, Option, Some, None}
use Rattle.std.specs.Prelude.{unwrap_or, false}
use Rattle.std.specs.List.{list_any, prefix_len, starts_with}
use Rattle.std.specs.Option.{option_and_then, option_map_or}
use Rattle.std.specs.Str.{bytes_eq}
use Rattle.pam_conf.specs.Files.{Folder}
use Rattle.pam_facts.specs.Paths.{module_name}
use Rattle.pam_explain.specs.declared.explanation.Level.{Level}
use Rattle.pam_explain.specs.declared.explanation.Level.TheVariants.{Note}
use Rattle.pam_explain.specs.declared.hosts.TheConstants as of_hosts
use Rattle.pam_explain.specs.Explanation.{Explanation}
use Rattle.pam_explain.specs.Views.{row_view}
use Rattle.pam_findings.specs.declared.misspelled.right_words.TheConstants.{MAX_NAMES}
use Rattle.pam_findings.specs.misspelled.Misspelled.{MisspelledText}
use Rattle.pam_findings.specs.misspelled.MisspelledView.{misspelled_view}
use Rattle.pam_policy.specs.names.Calls.{calls_in}
use Rattle.pam_spelling.specs.Nearest.{nearest}
use Rattle.pam_tables.specs.Lines.{lines_from}
use Rattle.pam_text.specs.Blanks.{is_table_blank}
use Rattle.pam_text.specs.Source.{source_fault}
use Rattle.pam_report.specs.declared.report.unused.UnusedLine.{UnusedLine}
use Rattle.pam_report.specs.declared.report.unused.UnusedLine.TheVariants as lines

-- a line of the accept file, or of the facts file with the name of its module
pub data UnusedText : Type 0 where
  OfAccept : ℕ → UnusedText
  OfFacts : ℕ → MisspelledText → UnusedText

abbrev pub unused_view : UnusedLine → UnusedText
unused_view (lines.OfAccept line) = OfAccept line
unused_view (lines.OfFacts line name) = OfFacts line (misspelled_view name)

-- the number of the line, and the name of the file, by those of both files
abbrev pub number_of_unused : UnusedText → ℕ
number_of_unused (OfAccept line) = line
number_of_unused (OfFacts line name) = line

abbrev pub file_of_unused : List ℕ → List ℕ → UnusedText → List ℕ
file_of_unused accept facts (OfAccept line) = accept
file_of_unused accept facts (OfFacts line name) = facts

-- THE ROW of such a line
abbrev pub unused_row : Explanation
unused_row = row_view of_hosts.UNUSED_LINE

-- HOW GRAVE it is: as its row says, but a facts file may be that of many hosts
abbrev pub level_of_unused : UnusedText → Level
level_of_unused (OfAccept line) = unused_row.level
level_of_unused (OfFacts line name) = Note

-- ---- rows of the facts file

-- what is before the first blank
abbrev pub word_before : List ℕ → List ℕ
word_before text = take (prefix_len (λ b. not (is_table_blank b)) text) text

-- the first word of a line
abbrev pub first_word : List ℕ → List ℕ
first_word line = word_before (drop (prefix_len is_table_blank line) line)

-- the name of the module of a line, which is its first word. A comment and a blank line have none
abbrev pub module_in : List ℕ → Option (List ℕ)
module_in line = if starts_with nat_eq line (codes "#") || bytes_eq (first_word line) [] then None else Some (first_word line)

-- the names of the modules that rules call, and then of those that are there
unfoldable pub modules_met : Folder → Option (List (List ℕ)) → List (List ℕ)
modules_met files there =
    filter_map (λ call. module_name call.path) (calls_in files) ++ filter_map module_name (unwrap_or there [])

-- a module that is none of these, with the nearest of them
abbrev pub idle_named : List (List ℕ) → ℕ → List ℕ → Option UnusedText
idle_named met line name =
    if list_any (bytes_eq name) met then None
    else Some (OfFacts line (record { of = []; word = name; nearest = nearest (take MAX_NAMES met) name; is_certain = false; leads_nowhere = false; spot = None }))

-- the same of a numbered line
abbrev pub idle_at : List (List ℕ) → ℕ × List ℕ → Option UnusedText
idle_at met line = option_and_then (idle_named met line.0) (module_in line.1)

abbrev pub idle_in : List (List ℕ) → List ℕ → List UnusedText
idle_in met facts = filter_map (idle_at met) (lines_from 1 facts)

-- THE IDLE ROWS of a facts file, in their order: no rule calls a module of the name, and no folder of modules has one
unfoldable pub idle_rows : Folder → Option (List (List ℕ)) → List ℕ → List UnusedText
idle_rows files there facts = option_map_or (λ fault. []) (source_fault facts) (idle_in (modules_met files there) facts)

-- THE LINES that say nothing: of the accept file, and then of the facts file
abbrev pub unused_lines : List ℕ → List UnusedText → List UnusedText
unused_lines accept idle = map OfAccept accept ++ idle
