-- The text of `check`: a line for each finding, and a last line with their numbers.
use Rattle.std.specs.Prelude.{ℕ, ◌-◌, ◌==◌, ◌&&◌, ◌||◌, nat_lt, Bool, false, List, [], ◌∷◌, ◌++◌, codes}
use Rattle.std.specs.Prelude.{decimal, if◌then◌else◌, Option, None, Some, slice_index_or}
use Rattle.std.specs.List.{concat, flat_map}
use Rattle.std.specs.Option.{option_map_or}
use Rattle.std.specs.Str.{bytes_eq}
use Rattle.pam_codes.specs.SetText.{name_of}
use Rattle.pam_conf.specs.Stack.{Items}
use Rattle.pam_conf.specs.declared.rule.Form.{Form}
use Rattle.pam_conf.specs.declared.rule.Form.TheVariants.{Single}
use Rattle.pam_conf.specs.declared.rule.Kind.{Kind}
use Rattle.pam_explain.specs.declared.explanation.Level.{Level}
use Rattle.pam_explain.specs.Explanation.{Explanation}
use Rattle.pam_findings.specs.host.Levels.{level_of}
use Rattle.pam_findings.specs.host.Rows.{row_of}
use Rattle.pam_findings.specs.tables.Rows.{row_of as row_of_table}
use Rattle.pam_facts.specs.declared.kinds.Kinds.{Kinds}
use Rattle.pam_findings.specs.declared.host.met.Met.{Met}
use Rattle.pam_findings.specs.declared.host.problem.Place.{Place}
use Rattle.pam_findings.specs.declared.host.problem.Problem.{Problem}
use Rattle.pam_findings.specs.declared.host.problem.Problem.TheVariants as problems
use Rattle.pam_findings.specs.declared.host.report.Finding.{Finding}
use Rattle.pam_findings.specs.declared.host.way_in.Answered.{Answered}
use Rattle.pam_findings.specs.declared.host.way_in.WayIn.{WayIn}
use Rattle.pam_facts.specs.known.Answers.{name_of_path}
use Rattle.pam_findings.specs.misspelled.Misspelled.{MisspelledText}
use Rattle.pam_findings.specs.declared.misspelled.spot.Spot.{Spot}
use Rattle.pam_render.specs.parts.Check.{Names, path_of, spot_of, stacks_of, text_at}
use Rattle.pam_render.specs.parts.Findings.{Found, InTable, Last, Line, Unused, check_lines}
use Rattle.pam_render.specs.declared.parts.check.Counts.{Counts}
use Rattle.pam_report.specs.Decide.{path_at}
use Rattle.pam_report.specs.Names.{stack_of}
use Rattle.pam_report.specs.Reply.{CheckValue}
use Rattle.pam_report.specs.TablePaths.{TablePathsText, path_of as path_of_table}
use Rattle.pam_report.specs.Unused.{UnusedText, level_of_unused, number_of_unused, unused_row}
use Rattle.pam_findings.specs.declared.tables.problem.TableFinding.{TableFinding}
use Rattle.pam_render.specs.text.Header.{kind_name}
use Rattle.pam_render.specs.sentences.Sentences as say
use Rattle.pam_render.specs.sentences.Shown.{shown_name}
use Rattle.pam_render.specs.sentences.Tables.{table_sentence}

-- THE PLACE OF A FINDING

-- a file as a whole has no line
abbrev pub number_text : ℕ → List ℕ
number_text line = if line == 0 then [] else codes ":" ++ decimal line

-- where a word begins, or of no word the line of the finding
abbrev pub where_text : ℕ → Option Spot → List ℕ
where_text line None = number_text line
where_text line (Some spot) = concat (codes ":" ∷ decimal spot.line ∷ codes ":" ∷ decimal spot.column ∷ [])

-- `PATH:LINE: `, or `PATH:LINE:COLUMN: ` where a word begins
unfoldable pub place_text : List (List ℕ) → Place → Option Spot → List ℕ
place_text paths place spot = shown_name (path_of paths place.file) ++ where_text place.line spot ++ codes ": "

-- THE STACKS THAT MEET IT

-- kinds, with commas
abbrev pub after_comma : Bool → List ℕ → List ℕ
after_comma more name = if more then codes ", " ++ name else name

abbrev pub if_kind : Bool → Bool → List ℕ → List ℕ
if_kind is_named more name = if is_named then after_comma more name else []

unfoldable pub kinds_text : Kinds → List ℕ
kinds_text k =
    if_kind k.auth false (codes "auth") ++ if_kind k.account k.auth (codes "account")
    ++ if_kind k.password (k.auth || k.account) (codes "password") ++ if_kind k.session (k.auth || k.account || k.password) (codes "session")

-- the second service, and the number of the others
abbrev pub others_text : List (List ℕ) → ℕ → ℕ → List ℕ
others_text services second count =
    if nat_lt 2 count then codes ", " ++ shown_name (text_at services second) ++ codes " and " ++ decimal (count - 2) ++ codes " more"
    else codes " and " ++ shown_name (text_at services second)

abbrev pub others_if_any : List (List ℕ) → Met → List ℕ
others_if_any services met = option_map_or (λ second. others_text services second met.services) met.second []

-- ` (KINDS; SERVICES)`
unfoldable pub met_text : List (List ℕ) → Met → List ℕ
met_text services met =
    codes " (" ++ kinds_text met.kinds ++ codes "; " ++ shown_name (text_at services met.first)
    ++ others_if_any services met ++ codes ")"

abbrev pub met_if_any : List (List ℕ) → Option Met → List ℕ
met_if_any services met = option_map_or (met_text services) met []

-- THE SENTENCE

-- ` of SERVICE` in pam.conf, whose findings have one place for all services
abbrev pub of_service : Form → List (List ℕ) → Option ℕ → List ℕ
of_service Single services (Some service) = codes " of " ++ shown_name (text_at services service)
of_service form services service = []

abbrev pub kind_of_service : Names → Kind → Option ℕ → List ℕ
kind_of_service names kind service = kind_name kind ++ of_service names.form names.services service

-- `NUMBER NAME CODE`
unfoldable pub answer_text : Items → Answered → List ℕ
answer_text items answer =
    codes " " ++ decimal answer.number ++ codes " " ++ shown_name (name_of_path (path_at answer.number items)) ++ codes " " ++ name_of answer.code

abbrev pub next_answer : Items → Answered → List ℕ
next_answer items answer = codes "," ++ answer_text items answer

-- `: NUMBER NAME CODE, NUMBER NAME CODE`
unfoldable pub answers_text : Items → List Answered → List ℕ
answers_text items [] = []
answers_text items (answer ∷ answers) = (codes ":" ++ answer_text items answer) ++ flat_map (next_answer items) answers

abbrev pub way_text : Option WayIn → List ℕ
way_text way = option_map_or (λ w. answers_text w.stack w.answers.items) way []

-- the first way in of a service
abbrev pub way_in_at : List (Option WayIn) → ℕ → List ℕ
way_in_at ways service = way_text (slice_index_or ways service None)

-- of the first service that meets a problem
abbrev pub first_way_in : List (Option WayIn) → Option Met → List ℕ
first_way_in ways met = option_map_or (λ m. way_in_at ways m.first) met []

-- the kind and the service of a problem of a whole stack
abbrev pub subject_text : Names → Option (Option ℕ × Kind) → List ℕ
subject_text names None = []
subject_text names (Some stack) = kind_of_service names stack.1 stack.0

-- one service alone meets a problem, and the name of the file is its name
abbrev pub is_its_own : Names → Option ℕ → Met → Bool
is_its_own names file met =
    (met.services == 1) && bytes_eq (name_of_path (path_of names.paths file)) (text_at names.services met.first)

-- the stacks that meet a problem of which a file is the cause, unless the file says so
abbrev pub met_of_cause : Names → Option ℕ → Option Met → List ℕ
met_of_cause names file None = []
met_of_cause names file (Some met) = if is_its_own names file met then [] else met_text names.services met

-- but none where the problem names its service
abbrev pub met_unless_named : Names → Option ℕ → Option Met → Option ℕ → List ℕ
met_unless_named names file met None = met_of_cause names file met
met_unless_named names file met (Some service) = []

-- the stacks that meet a problem of a line, or of a whole stack
abbrev pub met_unless : Names → Option ℕ → Option Met → Option (Option ℕ × Kind) → List ℕ
met_unless names file met None = met_if_any names.services met
met_unless names file met (Some stack) = met_unless_named names file met stack.0

-- the first way in, and the stacks that meet S2
abbrev pub way_and_met : Names → Option ℕ → Option Met → Option ℕ → List ℕ
way_and_met names file met service = first_way_in names.ways_in met ++ met_unless_named names file met service

-- what comes after what is said
abbrev pub rest_text : Names → Option ℕ → Option Met → Problem → List ℕ
rest_text names file met (problems.LetsAnybodyIn service is_greeter) = way_and_met names file met service
rest_text names file met problem = met_unless names file met (stack_of problem)

-- what is wrong, how to mend it, and which stacks meet it; with the word that is wrong, if it is known
unfoldable pub sentence : Names → Place → Option Met → Problem → Option MisspelledText → List ℕ
sentence names place met problem word =
    subject_text names (stack_of problem) ++ say.said place.line problem word ++ rest_text names place.file met problem

-- `LEVEL: NUMBER NAME: `, with the number and the name of a row
unfoldable pub heading_text : Level → Explanation → List ℕ
heading_text level row = say.level_name level ++ codes ": " ++ row.number ++ codes " " ++ row.name ++ codes ": "

-- A LINE: `PLACE: LEVEL: NUMBER NAME: SENTENCE`
unfoldable pub finding_line : Names → Place × Finding → Option MisspelledText → List ℕ
finding_line names entry word =
    place_text names.paths entry.0 (spot_of word) ++ heading_text (level_of entry.1.problem) (row_of entry.1.problem)
    ++ sentence names entry.0 entry.1.met entry.1.problem word ++ codes "\n"

-- A LINE FOR A PROBLEM OF A TABLE: `PATH:LINE: LEVEL: NUMBER NAME: SENTENCE`
abbrev pub table_place : TablePathsText → TableFinding → List ℕ
table_place paths finding = shown_name (path_of_table paths finding.table finding.number) ++ number_text finding.line ++ codes ": "

abbrev pub table_heading : TableFinding → List ℕ
table_heading finding = heading_text (row_of_table finding.problem).level (row_of_table finding.problem)

unfoldable pub table_line : TablePathsText → TableFinding → List ℕ
table_line paths finding = table_place paths finding ++ table_heading finding ++ table_sentence finding.problem ++ codes "\n"

-- THE LAST LINE

-- `1 error`, `2 errors`
abbrev pub counted : ℕ → List ℕ → List ℕ
counted count name = decimal count ++ codes " " ++ name ++ (if count == 1 then [] else codes "s")

-- `ERRORS, WARNINGS, NOTES`
abbrev pub levels_text : Counts → List ℕ
levels_text counts =
    counted counts.errors (codes "error") ++ codes ", " ++ counted counts.warnings (codes "warning") ++ codes ", "
    ++ counted counts.notes (codes "note")

-- `checked N NAMES, STACKS: ERRORS, WARNINGS, NOTES`
unfoldable pub checked_line : ℕ → List ℕ → ℕ → Counts → List ℕ
checked_line count name stacks counts =
    codes "checked " ++ counted count name ++ codes ", " ++ counted stacks (codes "stack") ++ codes ": " ++ levels_text counts ++ codes "\n"

abbrev pub last_line : ℕ → Counts → List ℕ
last_line services counts = checked_line services (codes "service") (stacks_of services) counts

-- `:LINE: LEVEL: NUMBER NAME: `
abbrev pub unused_heading : UnusedText → List ℕ
unused_heading unused = codes ":" ++ decimal (number_of_unused unused) ++ codes ": " ++ heading_text (level_of_unused unused) unused_row

-- A LINE THAT SAYS NOTHING of the host: `FILE:LINE: LEVEL: NUMBER NAME: SENTENCE`
unfoldable pub unused_line : List ℕ → UnusedText → List ℕ
unused_line file unused = shown_name file ++ unused_heading unused ++ say.unused_said unused ++ codes "\n"

-- ONE LINE
abbrev pub line_text : Line → List ℕ
line_text (Found names entry word) = finding_line names entry word
line_text (InTable paths finding) = table_line paths finding
line_text (Unused file unused) = unused_line file unused
line_text (Last services counts) = last_line services counts

-- THE TEXT of `check`: which lines come, in which order, says `check_lines`
abbrev pub check_text : CheckValue → List ℕ
check_text value = check_lines line_text value
