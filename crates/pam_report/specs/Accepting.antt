-- The findings that are meant to be: a line of an accept file has the number and the place of each that it accepts.
use Rattle.std.specs.Prelude.{ℕ, ◌==◌, Bool, not, List, [], ◌∷◌, ◌++◌, codes, decimal, filter, map, if◌then◌else◌}
use Rattle.std.specs.Prelude.{Option, Some, None, slice_get, unwrap_or}
use Rattle.std.specs.BTreeMap.{BTreeMap}
use Rattle.std.specs.List.{list_any}
use Rattle.std.specs.Str.{bytes_eq}
use Rattle.pam_findings.specs.accepted.Lines.{Accepted}
use Rattle.pam_conf.specs.Files.{Folder}
use Rattle.pam_conf.specs.declared.rule.Kind.{Kind}
use Rattle.pam_findings.specs.declared.host.problem.Place.{Place}
use Rattle.pam_findings.specs.declared.host.report.Finding.{Finding}
use Rattle.pam_findings.specs.host.Rows.{row_of}
use Rattle.pam_findings.specs.tables.Rows.{row_of as row_of_table}
use Rattle.pam_facts.specs.known.Answers.{name_of_path}
use Rattle.pam_findings.specs.declared.tables.problem.TableFinding.{TableFinding}
use Rattle.pam_findings.specs.declared.tables.problem.TablePlace.{TablePlace}
use Rattle.pam_report.specs.Fault.{file_at}
use Rattle.pam_report.specs.Names.{kind_name, stack_of}
use Rattle.pam_report.specs.TablePaths.{TablePathsText, path_of}

-- the service at a position
abbrev pub service_at : List (List ℕ) → ℕ → List ℕ
service_at services position = unwrap_or (slice_get services position) []

-- the name of the service of a stack; where a file is the cause, that of the file, which is a service too
abbrev pub stack_name : Folder → List (List ℕ) → Option ℕ → Option ℕ → List ℕ
stack_name files services file (Some service) = service_at services service
stack_name files services file None = unwrap_or (file_at files file) []

abbrev pub stack_key : List ℕ → Kind → List ℕ
stack_key name kind = codes " " ++ name ++ codes " " ++ kind_name kind

abbrev pub line_key : ℕ → List ℕ
line_key line = if line == 0 then [] else codes ":" ++ decimal line

abbrev pub file_key : Option (List ℕ) → ℕ → List ℕ
file_key None line = []
file_key (Some name) line = codes " " ++ name ++ line_key line

-- ` SERVICE KIND` for a stack, ` FILE:LINE` for a line, ` FILE` for a file as a whole, and nothing for the configuration as a whole
abbrev pub place_key : Folder → List (List ℕ) → Place → Option (Option ℕ × Kind) → List ℕ
place_key files services place (Some stack) = stack_key (stack_name files services place.file stack.0) stack.1
place_key files services place None = file_key (file_at files place.file) place.line

-- THE KEY of a finding: its number and its place
unfoldable pub key_of : Folder → List (List ℕ) → Place × Finding → List ℕ
key_of files services entry = (row_of entry.1.problem).number ++ place_key files services entry.0 (stack_of entry.1.problem)

-- THE KEY of a problem of a table: its number, and the name of the table's file with the line
unfoldable pub table_key_of : TablePathsText → TableFinding → List ℕ
table_key_of paths finding =
    (row_of_table finding.problem).number ++ file_key (Some (name_of_path (path_of paths finding.table finding.number))) finding.line

-- some line has this key
abbrev pub accepts : List Accepted → List ℕ → Bool
accepts lines key = list_any (λ line. bytes_eq key line.1) lines

-- the findings that no line accepts
abbrev pub not_accepted : List Accepted → Folder → List (List ℕ) → List (Place × Finding) → List (Place × Finding)
not_accepted lines files services found = filter (λ entry. not (accepts lines (key_of files services entry))) found

-- the problems of tables that no line accepts
abbrev pub tables_not_accepted : List Accepted → TablePathsText → List TableFinding → List TableFinding
tables_not_accepted lines paths found = filter (λ finding. not (accepts lines (table_key_of paths finding))) found

-- the numbers of the lines that have none of these keys
abbrev pub lines_without : List (List ℕ) → List Accepted → List ℕ
lines_without keys lines = map (λ line. line.0) (filter (λ line. not (list_any (bytes_eq line.1) keys)) lines)

-- the keys of all findings
abbrev pub all_keys : Folder → List (List ℕ) → List (Place × Finding) → TablePathsText → List TableFinding → List (List ℕ)
all_keys files services found paths tables = map (key_of files services) found ++ map (table_key_of paths) tables

-- the problems of a report on tables, in its order
abbrev pub table_findings : BTreeMap TablePlace TableFinding → List TableFinding
table_findings found = map (λ entry. entry.1) found.entries
