-- A reply: the value that answers a request.
use Rattle.std.specs.List.{list_any}
use Rattle.std.specs.Prelude.{ℕ, nat_lt, List, Option, Result, Bool, true, false, ◌==◌, ◌||◌, if◌then◌else◌}
use Rattle.pam_changes.specs.Counts.{counts_of}
use Rattle.pam_changes.specs.declared.changes.HostChanges.{HostChanges}
use Rattle.pam_changes.specs.declared.counts.Counts.{Counts}
use Rattle.pam_conf.specs.Files.{Folder}
use Rattle.pam_conf.specs.Stack.{Items}
use Rattle.pam_conf.specs.declared.rule.Form.{Form}
use Rattle.pam_conf.specs.declared.rule.Kind.{Kind}
use Rattle.pam_dispatch.specs.declared.flat_item.FlatItem.{FlatItem}
use Rattle.pam_explain.specs.Explanation.{Explanation}
use Rattle.pam_graph.specs.Walks.{GraphValue}
use Rattle.pam_findings.specs.host.Levels.{level_of}
use Rattle.pam_explain.specs.declared.explanation.Level.{Level}
use Rattle.pam_explain.specs.declared.explanation.Level.TheVariants as levels
use Rattle.pam_findings.specs.declared.host.problem.Place.{Place}
use Rattle.pam_findings.specs.declared.host.report.Finding.{Finding}
use Rattle.pam_findings.specs.declared.host.way_in.WayIn.{WayIn}
use Rattle.pam_graph.specs.declared.goal.Goal.{Goal}
use Rattle.pam_findings.specs.misspelled.Misspelled.{MisspelledText}
use Rattle.pam_policy.specs.host.Findings.{FindingText, findings_of}
use Rattle.pam_policy.specs.needs.Suggestions.{SuggestionText}
use Rattle.pam_policy.specs.declared.host.report.RuleReport.{RuleReport}
use Rattle.pam_policy.specs.declared.host.stacks.HostStacks.{HostStacks}
use Rattle.pam_paths.specs.Listing.{Allowance}
use Rattle.pam_paths.specs.Paths.{PathValue}
use Rattle.pam_tables.specs.declared.access.AccessAnswer.{AccessAnswer}
use Rattle.pam_tables.specs.declared.access.AccessAnswer.TheVariants as access
use Rattle.pam_findings.specs.declared.tables.problem.TableFinding.{TableFinding}
use Rattle.pam_tables.specs.declared.times.table.TimeAnswer.{TimeAnswer}
use Rattle.pam_tables.specs.declared.times.table.TimeAnswer.TheVariants as times
use Rattle.pam_words.specs.declared.wanted.GraphFormat.{GraphFormat}
use Rattle.pam_words.specs.declared.wanted.LevelName.{LevelName}
use Rattle.pam_words.specs.declared.wanted.LevelName.TheVariants as names
use Rattle.pam_words.specs.declared.wanted.PagePart.{PagePart}
use Rattle.pam_report.specs.Decide.{AskedModule}
use Rattle.pam_report.specs.PolicyLevels.{policy_level}
use Rattle.pam_report.specs.Released.{ReleasedValue}
use Rattle.pam_findings.specs.tables.Rows.{row_of as row_of_table}
use Rattle.pam_report.specs.TablePaths.{TablePathsText}
use Rattle.pam_report.specs.Unused.{UnusedText, level_of_unused}
use Rattle.pam_report.specs.declared.fault.Fault.{Fault}
use Rattle.pam_report.specs.declared.report.policy.JudgedPolicy.{JudgedPolicy}
use Rattle.pam_report.specs.declared.report.Status.{Status}
use Rattle.pam_report.specs.declared.report.Status.TheVariants.{Success, Refusal, Faulty}

-- the stack of a service for a kind
pub record StackValue : Type 0 where
  pub service : List ℕ
  pub kind : Kind
  pub files : Folder
  pub items : Items

-- a run of a stack: the number of its modules, those that are asked, and the decision
pub record RunValue : Type 0 where
  pub service : List ℕ
  pub kind : Kind
  pub modules : ℕ
  pub asked : List AskedModule
  pub decision : ℕ

-- a decision, the number of paths that end in it, and the first of these
pub record Outcome : Type 0 where
  pub decision : ℕ
  pub count : Option ℕ
  pub first : PathValue

-- the outcomes of a stack, and the number of all its paths
pub record OutcomesValue : Type 0 where
  pub service : List ℕ
  pub kind : Kind
  pub items : Items
  pub found : List Outcome
  pub total : Option ℕ

-- the graph of the runs of a stack, and the language in which it is to be drawn
pub record DrawingValue : Type 0 where
  pub service : List ℕ
  pub kind : Kind
  pub items : Items
  pub format : GraphFormat
  pub graph : GraphValue

-- a page of the paths through a stack that meet a goal, if its modules return codes that are allowed. It is listed from the
-- program of the stack, or from the graph of its runs
pub record PageValue : Type 0 where
  pub service : List ℕ
  pub kind : Kind
  pub items : Items
  pub program : List FlatItem
  pub allows : Allowance
  pub graph : Option GraphValue
  pub goal : Goal
  pub limit : ℕ
  pub part : PagePart

-- the findings of a host and the problems of its tables that are not accepted: the files of its configuration, and whether each is a
-- link that leads out of its folder, the path of the configuration and of each file, and of each table, the services that were checked,
-- the first way in of each, the names of the accept file and the facts file and their lines that say nothing, and the least level that
-- makes the status a refusal. At the position of each finding is the word that is wrong, if any
pub record CheckValue : Type 0 where
  pub form : Form
  pub files : Folder
  pub outside : List Bool
  pub paths : List (List ℕ)
  pub services : List (List ℕ)
  pub found : List (Place × Finding)
  pub misspelled : List (Option MisspelledText)
  pub ways_in : List (Option WayIn)
  pub table_paths : TablePathsText
  pub tables : List TableFinding
  pub accept : List ℕ
  pub facts : List ℕ
  pub unused : List UnusedText
  pub fail_on : LevelName

-- what changes from one configuration to another. One that is not given has no files
pub record CompareValue : Type 0 where
  pub old : Folder
  pub new : Folder
  pub changes : HostChanges

-- the stacks of a host, what these say of the rules of policies, and the least level of a finding that makes the status a refusal
pub record PolicyValue : Type 0 where
  pub files : Folder
  pub stacks : HostStacks
  pub policies : List JudgedPolicy
  pub fail_on : LevelName

-- the rules that hold of the stack of a service, or `None` if no answers let anybody in
pub record NeedsValue : Type 0 where
  pub service : List ℕ
  pub kind : Kind
  pub items : Items
  pub rules : Option (List SuggestionText)

pub data Reply : Type 0 where
  -- the stacks of a service
  Stacks : List StackValue → Reply
  -- the rules of a service, as a release reads them
  Released : List ReleasedValue → Reply
  Run : RunValue → Reply
  -- the answer, and the name of the table whose line decides, where several are given
  Access : AccessAnswer → Option (List ℕ) → Reply
  Time : TimeAnswer → Reply
  Outcomes : OutcomesValue → Reply
  Drawing : DrawingValue → Reply
  Page : PageValue → Reply
  Check : CheckValue → Reply
  Compared : CompareValue → Reply
  Policy : PolicyValue → Reply
  Needs : NeedsValue → Reply
  Explained : Explanation → Reply
  Explanations : Reply
  Facts : Reply
  Version : Reply

-- a reply, or the first fault
abbrev pub Answer : Type 0
Answer = Result Reply Fault

-- only the code 0 is a success
abbrev pub status_of_decision : ℕ → Status
status_of_decision code = if code == 0 then Success else Refusal

abbrev pub access_status : AccessAnswer → Status
access_status (access.Granted line) = Success
access_status (access.Denied line) = Refusal

abbrev pub time_status : TimeAnswer → Status
time_status times.Granted = Success
time_status (times.Denied line) = Refusal

-- a finding of this level counts
abbrev pub counts : LevelName → Level → Bool
counts names.Note level = true
counts names.Warning levels.Note = false
counts names.Warning level = true
counts names.Error levels.Error = true
counts names.Error level = false

-- some finding counts
abbrev pub has_counting : LevelName → List (Place × Finding) → Bool
has_counting fail_on found = list_any (λ entry. counts fail_on (level_of entry.1.problem)) found

-- some problem of a table counts
abbrev pub has_counting_table : LevelName → List TableFinding → Bool
has_counting_table fail_on tables = list_any (λ finding. counts fail_on (row_of_table finding.problem).level) tables

-- some line that says nothing counts
abbrev pub has_counting_line : LevelName → List UnusedText → Bool
has_counting_line fail_on unused = list_any (λ line. counts fail_on (level_of_unused line)) unused

abbrev pub check_status : CheckValue → Status
check_status value =
    if has_counting value.fail_on value.found || (has_counting_table value.fail_on value.tables || has_counting_line value.fail_on value.unused)
    then Refusal else Success

-- a stack that is refused comes before a decision that changes, or of which that is not known
abbrev pub status_of_counts : Counts → Status
status_of_counts counts =
    if nat_lt 0 counts.refused then Faulty
    else if nat_lt 0 counts.changed || nat_lt 0 counts.not_known then Refusal else Success

abbrev pub compare_status : CompareValue → Status
compare_status value = status_of_counts (counts_of value.changes)

-- some of these findings of a policy counts
abbrev pub any_counts : LevelName → List FindingText → Bool
any_counts fail_on found = list_any (λ finding. counts fail_on (policy_level finding)) found

-- some finding of a rule counts
abbrev pub has_counting_report : LevelName → RuleReport → Bool
has_counting_report fail_on report = any_counts fail_on (findings_of report)

-- some finding of some rule of a policy counts
abbrev pub has_counting_rule : LevelName → JudgedPolicy → Bool
has_counting_rule fail_on policy = list_any (has_counting_report fail_on) policy.reports.items

abbrev pub policy_status : PolicyValue → Status
policy_status value = if list_any (has_counting_rule value.fail_on) value.policies then Refusal else Success

-- THE STATUS of a reply
abbrev pub status_of : Reply → Status
status_of (Run run) = status_of_decision run.decision
status_of (Access answer table) = access_status answer
status_of (Time found) = time_status found
status_of (Check found) = check_status found
status_of (Compared changes) = compare_status changes
status_of (Policy found) = policy_status found
status_of _ = Success

-- memory is wanted to print a reply: for the lines of a page, for the title of a drawing, for the names of a check, and for the findings of
-- policies
abbrev pub wants_memory : Reply → Bool
wants_memory (Page page) = true
wants_memory (Drawing drawing) = true
wants_memory (Check found) = true
wants_memory (Policy found) = true
wants_memory _ = false

abbrev pub status_number : Status → ℕ
status_number Success = 0
status_number Refusal = 1
status_number Faulty = 3
