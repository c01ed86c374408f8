-- The results of a SARIF document: one for each finding of `check`, in the order of its text.
use Rattle.std.specs.Prelude.{ℕ, List, [], ◌∷◌, ◌++◌, codes, map, Option, None}
use Rattle.std.specs.List.{enumerate_from}
use Rattle.pam_findings.specs.host.Levels.{level_of}
use Rattle.pam_findings.specs.host.Rows.{row_of}
use Rattle.pam_findings.specs.tables.Rows.{row_of as row_of_table}
use Rattle.pam_explain.specs.declared.explanation.Level.{Level}
use Rattle.pam_findings.specs.declared.host.problem.Place.{Place}
use Rattle.pam_findings.specs.declared.host.report.Finding.{Finding}
use Rattle.pam_findings.specs.declared.tables.problem.TableFinding.{TableFinding}
use Rattle.pam_findings.specs.misspelled.Misspelled.{MisspelledText}
use Rattle.pam_findings.specs.declared.misspelled.spot.Spot.{Spot}
use Rattle.pam_render.specs.json_lines.Line.{items_of, joined, members_of}
use Rattle.pam_render.specs.json_text.Sentences.{said_parts, table_parts, unused_parts}
use Rattle.pam_render.specs.parts.Check.{Names, path_of, spot_of, word_at}
use Rattle.pam_render.specs.sarif.Location.{locations_array}
use Rattle.pam_render.specs.sarif.Rules.{text_object}
use Rattle.pam_render.specs.sentences.Sentences.{level_name}
use Rattle.pam_report.specs.Reply.{CheckValue}
use Rattle.pam_report.specs.TablePaths.{TablePathsText, path_of as path_of_table}
use Rattle.pam_report.specs.Unused.{UnusedText, file_of_unused, level_of_unused, number_of_unused, unused_row}
use Rattle.serde_json.specs.Data.{Data, array, object, string}

-- THE RESULT of a finding: its number, how grave it is, what is said of it, and where it is
unfoldable pub result_object : List ℕ → Level → Data → List ℕ → ℕ → Option Spot → Data
result_object number level said path at spot =
    object (members_of ((codes "ruleId", string number) ∷ (codes "level", string (level_name level))
    ∷ (codes "message", text_object said) ∷ (codes "locations", locations_array path at spot) ∷ []))

-- that of a finding, with the word that is wrong, if it is known
abbrev pub finding_result : Names → Place → Finding → Option MisspelledText → Data
finding_result names place finding word =
    result_object (row_of finding.problem).number (level_of finding.problem) (joined (said_parts place.line finding.problem word))
    (path_of names.paths place.file) place.line (spot_of word)

-- that of a finding with its position
abbrev pub numbered_result : Names → List (Option MisspelledText) → ℕ × (Place × Finding) → Data
numbered_result names words entry = finding_result names entry.1.0 entry.1.1 (word_at words entry.0)

-- that of a problem of a table
abbrev pub table_result : TablePathsText → TableFinding → Data
table_result paths finding =
    result_object (row_of_table finding.problem).number (row_of_table finding.problem).level (joined (table_parts finding.problem))
    (path_of_table paths finding.table finding.number) finding.line None

-- that of a line that says nothing of the host, by the names of the accept file and of the facts file
abbrev pub unused_result : List ℕ → List ℕ → UnusedText → Data
unused_result accept facts unused =
    result_object unused_row.number (level_of_unused unused) (joined (unused_parts unused)) (file_of_unused accept facts unused) (number_of_unused unused) None

-- THE RESULTS
abbrev pub results_of : Names → CheckValue → List Data
results_of names value =
    map (numbered_result names value.misspelled) (enumerate_from 0 value.found)
    ++ (map (table_result value.table_paths) value.tables ++ map (unused_result value.accept value.facts) value.unused)

abbrev pub results_array : Names → CheckValue → Data
results_array names value = array (items_of (results_of names value))
