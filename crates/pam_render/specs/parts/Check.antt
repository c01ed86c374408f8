-- What a check tells of services, files and numbers of findings.
use Rattle.std.specs.Prelude.{ℕ, ◌+◌, ◌*◌, Bool, true, false, List, [], count_by, min, Option, None, Some, slice_get, unwrap_or}
use Rattle.std.specs.Option.{option_and_then}
use Rattle.pam_conf.specs.declared.rule.Form.{Form}
use Rattle.pam_findings.specs.host.Levels.{level_of}
use Rattle.pam_explain.specs.declared.explanation.Level.{Level}
use Rattle.pam_explain.specs.declared.explanation.Level.TheVariants as levels
use Rattle.pam_findings.specs.declared.host.problem.Place.{Place}
use Rattle.pam_findings.specs.declared.host.report.Finding.{Finding}
use Rattle.pam_findings.specs.declared.host.way_in.WayIn.{WayIn}
use Rattle.pam_findings.specs.misspelled.Misspelled.{MisspelledText}
use Rattle.pam_findings.specs.declared.misspelled.spot.Spot.{Spot}
use Rattle.pam_report.specs.Reply.{CheckValue}
use Rattle.pam_findings.specs.tables.Rows.{row_of as row_of_table}
use Rattle.pam_report.specs.Unused.{UnusedText, level_of_unused}
use Rattle.pam_findings.specs.declared.tables.problem.TableFinding.{TableFinding}
use Rattle.pam_render.specs.declared.parts.check.Counts.{Counts}

-- NAMES

-- the names and the ways in that findings need
pub record Names : Type 0 where
  pub form : Form
  pub paths : List (List ℕ)
  pub services : List (List ℕ)
  pub ways_in : List (Option WayIn)

abbrev pub names_of_value : CheckValue → Names
names_of_value value = record { form = value.form; paths = value.paths; services = value.services; ways_in = value.ways_in }

-- the text at a position, empty if there is none
abbrev pub text_at : List (List ℕ) → ℕ → List ℕ
text_at texts position = unwrap_or (slice_get texts position) []

-- the path of a file; that of the configuration as a whole comes first
abbrev pub path_of : List (List ℕ) → Option ℕ → List ℕ
path_of paths None = text_at paths 0
path_of paths (Some file) = text_at paths (file + 1)

-- the word that is wrong at a position, if there is one
abbrev pub word_at : List (Option MisspelledText) → ℕ → Option MisspelledText
word_at words position = unwrap_or (slice_get words position) None

-- WHERE A WORD STANDS

-- the spot of a word, if there is one and it is known
abbrev pub spot_of : Option MisspelledText → Option Spot
spot_of word = option_and_then (λ m. m.spot) word

-- the line that is told: that of the word, which need not be the first of its rule
abbrev pub told_line : ℕ → Option Spot → ℕ
told_line at None = at
told_line at (Some spot) = spot.line

-- NUMBERS

abbrev pub is_level : Level → Level → Bool
is_level levels.Note levels.Note = true
is_level levels.Warning levels.Warning = true
is_level levels.Error levels.Error = true
is_level level other = false

-- the number of findings of a level
abbrev pub number_at : Level → List (Place × Finding) → ℕ
number_at level found = count_by (λ entry. is_level (level_of entry.1.problem) level) found

-- at most as much as a number of 64 bits can say
abbrev pub at_most : ℕ → ℕ
at_most count = min count 18446744073709551615

-- the number of problems of tables of a level
abbrev pub table_number_at : Level → List TableFinding → ℕ
table_number_at level tables = count_by (λ finding. is_level (row_of_table finding.problem).level level) tables

-- the number of lines of a level that say nothing of the host
abbrev pub unused_number_at : Level → List UnusedText → ℕ
unused_number_at level unused = count_by (λ line. is_level (level_of_unused line) level) unused

-- the number of findings, problems of tables and such lines of a level, and those of each level
abbrev pub number_of : List (Place × Finding) → List TableFinding → List UnusedText → Level → ℕ
number_of found tables unused level =
    at_most (at_most (number_at level found + table_number_at level tables) + unused_number_at level unused)

abbrev pub counts_of : List (Place × Finding) → List TableFinding → List UnusedText → Counts
counts_of found tables unused = record {
  errors = number_of found tables unused levels.Error;
  warnings = number_of found tables unused levels.Warning;
  notes = number_of found tables unused levels.Note;
}

-- the stacks of services, one for each of the four kinds
abbrev pub stacks_of : ℕ → ℕ
stacks_of services = at_most (services * 4)
