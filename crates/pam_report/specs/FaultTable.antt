-- The table of faults: the number and name of each, and its exit status.
use Rattle.std.specs.Prelude.{ℕ, List, codes}
use Rattle.pam_codes.specs.declared.error.ControlError.{ControlError}
use Rattle.pam_codes.specs.declared.error.ControlError.TheVariants.{BadControl, BadValue, BadAction, ZeroJump, OpenBracket}
use Rattle.pam_findings.specs.declared.accepted.error.AcceptError.{AcceptError}
use Rattle.pam_findings.specs.declared.accepted.error.AcceptError.TheVariants as accept
use Rattle.pam_text.specs.declared.source.SourceFault.TheVariants as source
use Rattle.pam_conf.specs.declared.error.FaultKind.{FaultKind}
use Rattle.pam_conf.specs.declared.error.FaultKind.TheVariants as conf
use Rattle.pam_facts.specs.declared.error.FactsFault.{FactsFault}
use Rattle.pam_facts.specs.declared.error.FactsFault.TheVariants as facts
use Rattle.pam_paths.specs.declared.cursor.CursorError.{CursorError}
use Rattle.pam_paths.specs.declared.cursor.CursorError.TheVariants as cursor
use Rattle.pam_policy.specs.declared.text.error.PolicyFault.{PolicyFault}
use Rattle.pam_policy.specs.declared.text.error.PolicyFault.TheVariants as policy
use Rattle.pam_report.specs.declared.inputs.InputError.{InputError}
use Rattle.pam_report.specs.declared.inputs.InputError.TheVariants as inputs
use Rattle.pam_tables.specs.declared.error.Table.{Table}
use Rattle.pam_tables.specs.declared.error.Table.TheVariants.{Access, Group, Returns}
use Rattle.pam_tables.specs.declared.error.TableFault.{TableFault}
use Rattle.pam_tables.specs.declared.error.TableFault.TheVariants as table
use Rattle.pam_tables.specs.declared.times.error.TimeFault.{TimeFault}
use Rattle.pam_tables.specs.declared.times.error.TimeFault.TheVariants as time
use Rattle.pam_tables.specs.declared.times.moments.MomentError.{MomentError}
use Rattle.pam_tables.specs.declared.times.moments.MomentError.TheVariants as moment
use Rattle.pam_words.specs.declared.wanted.Usage.{Usage}
use Rattle.pam_words.specs.declared.wanted.Usage.TheVariants as usage

-- the number and the name, and the exit status
pub record Row : Type 0 where
  pub name : List ℕ
  pub status : ℕ

abbrev pub row : List ℕ → ℕ → Row
row name status = record { name = name; status = status }

-- ---- the words of the command line. Help is no fault, and neither its name nor that of `Words` is printed

unfoldable pub usage_row : Usage → Row
usage_row (usage.Help error) = row (codes "Help") 0
usage_row (usage.Words error) = row (codes "U1 Words") 2
usage_row usage.NotUtf8 = row (codes "U1 NotUtf8") 2
usage_row usage.Source = row (codes "U2 Source") 2
usage_row usage.KindName = row (codes "U3 KindName") 2
usage_row usage.CodeName = row (codes "U4 CodeName") 2
usage_row usage.Login = row (codes "U5 Login") 2
usage_row usage.Moment = row (codes "U6 Moment") 2
usage_row usage.Memory = row (codes "U7 Memory") 6
usage_row usage.BothEnds = row (codes "U8 BothEnds") 2
usage_row usage.BothFilters = row (codes "U11 BothFilters") 2
usage_row usage.FormatName = row (codes "U12 FormatName") 2
usage_row usage.LevelName = row (codes "U13 LevelName") 2
usage_row usage.ReleaseForm = row (codes "U16 ReleaseForm") 2
usage_row usage.SettingForm = row (codes "U17 SettingForm") 2
usage_row usage.CandidateForm = row (codes "U15 CandidateForm") 2
usage_row usage.AnswersName = row (codes "U20 AnswersName") 2

-- ---- the configuration

unfoldable pub control_row : ControlError → Row
control_row BadControl = row (codes "E4 BadControl") 3
control_row BadValue = row (codes "E5 BadValue") 3
control_row BadAction = row (codes "E6 BadAction") 3
control_row ZeroJump = row (codes "E7 ZeroJump") 3
control_row OpenBracket = row (codes "E8 OpenBracket") 3

-- also for an allocation that failed outside the calls with a number of their own for it
abbrev pub memory_row : Row
memory_row = row (codes "E17 Memory") 6

unfoldable pub conf_row : FaultKind → Row
conf_row conf.NulByte = row (codes "E1 NulByte") 3
conf_row conf.MissingField = row (codes "E2 MissingField") 3
conf_row conf.BadKind = row (codes "E3 BadKind") 3
conf_row (conf.Control e) = control_row e
conf_row conf.MissingTarget = row (codes "E9 MissingTarget") 3
conf_row conf.BadTarget = row (codes "E10 BadTarget") 3
conf_row conf.Cycle = row (codes "E11 Cycle") 3
conf_row conf.TooDeep = row (codes "E12 TooDeep") 3
conf_row conf.TooManyModules = row (codes "E13 TooManyModules") 3
conf_row conf.IncludeInSingleFile = row (codes "E14 IncludeInSingleFile") 3
conf_row conf.NoService = row (codes "E15 NoService") 3
conf_row conf.FileTooLong = row (codes "E16 FileTooLong") 3
conf_row conf.Memory = memory_row
conf_row conf.TooManyFollowed = row (codes "E18 TooManyFollowed") 3

-- ---- codes and cursors

abbrev pub graph_row : Row
graph_row = row (codes "E19 TooManyStates") 3

abbrev pub module_row : Row
module_row = row (codes "U9 NoSuchModule") 2

abbrev pub key_row : Row
key_row = row (codes "U10 NoSuchKey") 2

abbrev pub number_row : Row
number_row = row (codes "U14 NoSuchNumber") 2

abbrev pub service_row : Row
service_row = row (codes "U18 NoSuchService") 2

abbrev pub candidate_row : Row
candidate_row = row (codes "U19 UnusedCandidate") 2

abbrev pub count_row : Row
count_row = row (codes "DE1 WrongCount") 2

abbrev pub cursor_row : CursorError → Row
cursor_row cursor.Syntax = row (codes "C1 Syntax") 2
cursor_row (cursor.NotLeast step) = row (codes "C2 NotLeast") 2
cursor_row cursor.TooShort = row (codes "C3 TooShort") 2
cursor_row cursor.TooLong = row (codes "C4 TooLong") 2

-- ---- tables and moments

unfoldable pub table_row : TableFault → Row
table_row table.MissingField = row (codes "TE1 MissingField") 4
table_row table.BadPermission = row (codes "TE2 BadPermission") 4
table_row table.Netgroup = row (codes "TE3 Netgroup") 4
table_row table.UserAtHost = row (codes "TE4 UserAtHost") 4
table_row table.BadMask = row (codes "TE5 BadMask") 4
table_row table.BadGroup = row (codes "TE9 BadGroup") 4
table_row table.NulByte = row (codes "TE10 NulByte") 4
table_row table.Memory = row (codes "TE11 Memory") 6
table_row table.TableTooLong = row (codes "TE12 TableTooLong") 4
table_row table.BadCode = row (codes "TE13 BadCode") 4
table_row table.BadModule = row (codes "TE14 BadModule") 4

unfoldable pub time_row : TimeFault → Row
time_row time.MissingField = row (codes "TE1 MissingField") 4
time_row time.Netgroup = row (codes "TE3 Netgroup") 4
time_row time.BadTimes = row (codes "TE6 BadTimes") 4
time_row time.TwoWildcards = row (codes "TE7 TwoWildcards") 4
time_row time.BadLogic = row (codes "TE8 BadLogic") 4
time_row time.NulByte = row (codes "TE10 NulByte") 4
time_row time.Memory = row (codes "TE11 Memory") 6
time_row time.TooLong = row (codes "TE12 TableTooLong") 4

unfoldable pub facts_row : FactsFault → Row
facts_row facts.BadFact = row (codes "TE16 BadFact") 4
facts_row facts.NulByte = row (codes "TE10 NulByte") 4
facts_row facts.Memory = row (codes "TE11 Memory") 6
facts_row facts.TooLong = row (codes "TE12 TableTooLong") 4

unfoldable pub policy_row : PolicyFault → Row
policy_row policy.MissingField = row (codes "TE1 MissingField") 4
policy_row policy.NulByte = row (codes "TE10 NulByte") 4
policy_row policy.Memory = row (codes "TE11 Memory") 6
policy_row policy.TableTooLong = row (codes "TE12 TableTooLong") 4
policy_row policy.BadCode = row (codes "TE13 BadCode") 4
policy_row policy.BadServices = row (codes "TE17 BadServices") 4
policy_row policy.BadKinds = row (codes "TE18 BadKinds") 4
policy_row policy.BadVerb = row (codes "TE19 BadVerb") 4
policy_row policy.BadEvent = row (codes "TE20 BadEvent") 4
policy_row policy.BadList = row (codes "TE21 BadList") 4
policy_row policy.NoAnswers = row (codes "TE22 NoAnswers") 4
policy_row policy.ExtraWord = row (codes "TE23 ExtraWord") 4
policy_row policy.TooManyRules = row (codes "TE24 TooManyRules") 4

unfoldable pub accept_row : AcceptError → Row
accept_row (accept.BadAccept line) = row (codes "TE15 BadAccept") 4
accept_row accept.Memory = row (codes "TE11 Memory") 6
accept_row (accept.Source (source.NulByte line)) = row (codes "TE10 NulByte") 4
accept_row (accept.Source source.TooLong) = row (codes "TE12 TableTooLong") 4

-- the name of a table, which is its place in a line
abbrev pub table_name : Table → List ℕ
table_name Access = codes "access"
table_name Group = codes "group"
table_name Returns = codes "returns"

abbrev pub moment_row : MomentError → Row
moment_row moment.Range = row (codes "M1 Range") 4
moment_row moment.Rule = row (codes "M2 Rule") 4
moment_row moment.Memory = row (codes "M3 Memory") 6
moment_row moment.Syntax = row (codes "M4 Syntax") 4

-- ---- reads and writes

-- a file cannot be read
abbrev pub read_row : Row
read_row = row (codes "V1 Read") 5

abbrev pub input_row : InputError → Row
input_row (inputs.Read name why) = read_row
input_row inputs.Memory = memory_row

abbrev pub write_row : Row
write_row = row (codes "V2 Write") 5
