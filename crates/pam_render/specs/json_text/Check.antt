-- The JSON of `check`: a line for each finding, and a last line with their numbers.
use Rattle.std.specs.Prelude.{ℕ, ◌==◌, Bool, true, false, List, [], ◌∷◌, ◌++◌, codes, map, Option, None, Some, option_map, slice_index_or}
use Rattle.std.specs.Prelude.{if◌then◌else◌}
use Rattle.std.specs.Option.{option_and_then, option_map_or}
use Rattle.pam_codes.specs.SetText.{name_of}
use Rattle.pam_conf.specs.Stack.{Items}
use Rattle.pam_conf.specs.declared.rule.Kind.{Kind}
use Rattle.pam_conf.specs.declared.rule.Kind.TheVariants.{Auth, Account, Password, Session}
use Rattle.pam_explain.specs.Explanation.{Explanation}
use Rattle.pam_findings.specs.host.Levels.{level_of}
use Rattle.pam_findings.specs.host.Rows.{row_of}
use Rattle.pam_findings.specs.tables.Rows.{row_of as row_of_table}
use Rattle.pam_explain.specs.declared.explanation.Level.{Level}
use Rattle.pam_facts.specs.declared.kinds.Kinds.{Kinds}
use Rattle.pam_findings.specs.declared.host.met.Met.{Met}
use Rattle.pam_findings.specs.declared.host.problem.Place.{Place}
use Rattle.pam_findings.specs.declared.host.problem.Problem.{Problem}
use Rattle.pam_findings.specs.declared.host.problem.Problem.TheVariants as problems
use Rattle.pam_findings.specs.declared.host.report.Finding.{Finding}
use Rattle.pam_findings.specs.declared.host.way_in.Answered.{Answered}
use Rattle.pam_findings.specs.declared.host.way_in.WayIn.{WayIn}
use Rattle.pam_render.specs.json_lines.Line.{items_of, joined, kind, line, members_of, number_or_null, readable, readable_or_null}
use Rattle.pam_facts.specs.known.Answers.{name_of_path}
use Rattle.pam_findings.specs.misspelled.Misspelled.{MisspelledText}
use Rattle.pam_findings.specs.declared.misspelled.spot.Spot.{Spot}
use Rattle.pam_render.specs.parts.Check.{Names, path_of, spot_of, stacks_of, text_at, told_line}
use Rattle.pam_render.specs.parts.Findings.{Found, InTable, Last, Line, Unused, check_lines}
use Rattle.pam_render.specs.declared.parts.check.Counts.{Counts}
use Rattle.pam_report.specs.Decide.{path_at}
use Rattle.pam_report.specs.Names.{stack_of}
use Rattle.pam_report.specs.Reply.{CheckValue}
use Rattle.pam_report.specs.TablePaths.{TablePathsText, path_of as path_of_table}
use Rattle.pam_report.specs.Unused.{UnusedText, level_of_unused, number_of_unused, unused_row}
use Rattle.pam_render.specs.sentences.Sentences.{level_name}
use Rattle.pam_findings.specs.declared.tables.problem.TableFinding.{TableFinding}
use Rattle.serde_json.specs.Data.{Data, array, no_items, number, object, string, unsigned}
use Rattle.pam_render.specs.json_text.Header.{kind_name}
use Rattle.pam_render.specs.json_text.Sentences.{said_parts, table_parts, unused_parts}

-- WHERE AND WHAT

-- a file as a whole has no line
abbrev pub line_if_any : ℕ → Option ℕ
line_if_any at = if at == 0 then None else Some at

-- the place of a problem, how grave it is, its number and its name, and what is said of it
abbrev pub place_members : List ℕ → ℕ → Option Spot → Level → Explanation → Data → List (List ℕ × Data) → List (List ℕ × Data)
place_members file at spot level row said members =
    kind (codes "finding") ∷ (codes "file", readable file) ∷ (codes "line", number_or_null (line_if_any (told_line at spot)))
    ∷ (codes "column", number_or_null (option_map (λ s. s.column) spot)) ∷ (codes "length", number_or_null (option_map (λ s. s.len) spot))
    ∷ (codes "level", string (level_name level)) ∷ (codes "number", string row.number)
    ∷ (codes "name", string row.name) ∷ (codes "sentence", said) ∷ members

-- THE STACKS THAT MEET IT

-- the stacks that meet a problem; one that names its service has none
abbrev pub met_unless : Option Met → Option ℕ → Option Met
met_unless met None = met
met_unless met (Some service) = None

abbrev pub if_named : Bool → Kind → List Kind
if_named true type = type ∷ []
if_named false type = []

abbrev pub kinds_of : Kinds → List Kind
kinds_of k = if_named k.auth Auth ++ if_named k.account Account ++ if_named k.password Password ++ if_named k.session Session

abbrev pub type_string : Kind → Data
type_string type = string (kind_name type)

abbrev pub types_array : Option Met → Data
types_array met = array (items_of (map type_string (option_map_or (λ m. kinds_of m.kinds) met [])))

-- the positions of at most the first two services
abbrev pub first_services : Met → List ℕ
first_services met = met.first ∷ option_map_or (λ second. second ∷ []) met.second []

abbrev pub service_string : List (List ℕ) → ℕ → Data
service_string services position = readable (text_at services position)

abbrev pub services_array : List (List ℕ) → Option Met → Data
services_array services met = array (items_of (map (service_string services) (option_map_or first_services met [])))

abbrev pub service_count : Option Met → ℕ
service_count met = option_map_or (λ m. m.services) met 0

-- THE FIRST WAY IN

-- the answer of a module
unfoldable pub answer_object : Items → Answered → Data
answer_object items answer =
    object (members_of ((codes "number", number (unsigned answer.number)) ∷ (codes "module", readable (name_of_path (path_at answer.number items)))
    ∷ (codes "code", string (name_of answer.code)) ∷ []))

abbrev pub way_array : Option WayIn → Data
way_array way = array (option_map_or (λ w. items_of (map (answer_object w.stack) w.answers.items)) way no_items)

-- that of the first service that meets a problem
abbrev pub first_way_array : List (Option WayIn) → Option Met → Data
first_way_array ways None = array no_items
first_way_array ways (Some met) = way_array (slice_index_or ways met.first None)

-- of S2 alone
abbrev pub answers_array : List (Option WayIn) → Option Met → Problem → Data
answers_array ways met (problems.LetsAnybodyIn service is_greeter) = first_way_array ways met
answers_array ways met problem = array no_items

-- the service that a problem of a whole stack names
abbrev pub service_of : Problem → Option ℕ
service_of problem = option_and_then (λ stack. stack.0) (stack_of problem)

-- THE LINE of a finding
abbrev pub stack_members : Option (List ℕ) → Option Kind → List (List ℕ) → Option Met → Data → List (List ℕ × Data)
stack_members service type services met answers =
    (codes "service", readable_or_null service) ∷ (codes "type", readable_or_null (option_map kind_name type)) ∷ (codes "types", types_array met)
    ∷ (codes "services", services_array services met) ∷ (codes "service_count", number (unsigned (service_count met))) ∷ (codes "answers", answers) ∷ []

abbrev pub finding_members : Names → Place → Finding → Option MisspelledText → List (List ℕ × Data)
finding_members names place finding word =
    place_members (path_of names.paths place.file) place.line (spot_of word) (level_of finding.problem) (row_of finding.problem)
    (joined (said_parts place.line finding.problem word))
    (stack_members (option_map (text_at names.services) (service_of finding.problem)) (option_map (λ stack. stack.1) (stack_of finding.problem))
    names.services (met_unless finding.met (service_of finding.problem)) (answers_array names.ways_in finding.met finding.problem))

unfoldable pub finding_json : Names → Place → Finding → Option MisspelledText → List ℕ
finding_json names place finding word = line (finding_members names place finding word)

-- THE LINE of a problem that no stack meets
abbrev pub no_stack_members : List (List ℕ × Data)
no_stack_members = stack_members None None [] None (array no_items)

unfoldable pub other_json : List ℕ → ℕ → Level → Explanation → Data → List ℕ
other_json file at level row said = line (place_members file at None level row said no_stack_members)

-- that of a problem of a table
abbrev pub table_json : TablePathsText → TableFinding → List ℕ
table_json paths finding =
    other_json (path_of_table paths finding.table finding.number) finding.line (row_of_table finding.problem).level (row_of_table finding.problem)
    (joined (table_parts finding.problem))

-- that of a line that says nothing of the host
abbrev pub unused_json : List ℕ → UnusedText → List ℕ
unused_json file unused =
    other_json file (number_of_unused unused) (level_of_unused unused) unused_row (joined (unused_parts unused))

-- THE LAST LINE
abbrev pub checked_members : ℕ → Counts → List (List ℕ × Data)
checked_members services counts =
    kind (codes "checked") ∷ (codes "services", number (unsigned services)) ∷ (codes "stacks", number (unsigned (stacks_of services)))
    ∷ (codes "errors", number (unsigned counts.errors)) ∷ (codes "warnings", number (unsigned counts.warnings))
    ∷ (codes "notes", number (unsigned counts.notes)) ∷ []

unfoldable pub checked_json : ℕ → Counts → List ℕ
checked_json services counts = line (checked_members services counts)

-- ONE LINE
abbrev pub line_json : Line → List ℕ
line_json (Found names entry word) = finding_json names entry.0 entry.1 word
line_json (InTable paths finding) = table_json paths finding
line_json (Unused file unused) = unused_json file unused
line_json (Last services counts) = checked_json services counts

-- THE JSON of `check`: which lines come, in which order, says `check_lines`
abbrev pub check_json : CheckValue → List ℕ
check_json value = check_lines line_json value
