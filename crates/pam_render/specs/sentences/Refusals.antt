-- What is said of a fault for which a request has no answer, after its place: what is wrong, and how to mend it.
use Rattle.std.specs.Prelude.{ℕ, List, [], codes}
use Rattle.pam_conf.specs.declared.error.FaultKind.{FaultKind}
use Rattle.pam_conf.specs.declared.error.FaultKind.TheVariants as conf
use Rattle.pam_facts.specs.declared.error.FactsFault.{FactsFault}
use Rattle.pam_facts.specs.declared.error.FactsFault.TheVariants as facts
use Rattle.pam_findings.specs.declared.accepted.error.AcceptError.{AcceptError}
use Rattle.pam_findings.specs.declared.accepted.error.AcceptError.TheVariants as accept
use Rattle.pam_policy.specs.declared.text.error.PolicyFault.{PolicyFault}
use Rattle.pam_policy.specs.declared.text.error.PolicyFault.TheVariants as policy
use Rattle.pam_render.specs.sentences.Faults.{plain_sentence}
use Rattle.pam_render.specs.sentences.Tables.{table_fault_sentence, time_fault_sentence}
use Rattle.pam_report.specs.declared.fault.Fault.{Fault}
use Rattle.pam_report.specs.declared.fault.Fault.TheVariants as faults
use Rattle.pam_tables.specs.declared.error.Table.{Table}
use Rattle.pam_tables.specs.declared.error.Table.TheVariants.{Access, Group, Returns}
use Rattle.pam_tables.specs.declared.error.TableFault.{TableFault}
use Rattle.pam_tables.specs.declared.error.TableFault.TheVariants as tables
use Rattle.pam_tables.specs.declared.times.error.TimeFault.{TimeFault}
use Rattle.pam_tables.specs.declared.times.error.TimeFault.TheVariants as times
use Rattle.pam_tables.specs.declared.times.moments.MomentError.{MomentError}
use Rattle.pam_tables.specs.declared.times.moments.MomentError.TheVariants as moment
use Rattle.pam_text.specs.declared.source.SourceFault.TheVariants as source

-- a failed allocation has none
abbrev pub conf_sentence : ℕ → FaultKind → List ℕ
conf_sentence line conf.Memory = []
conf_sentence line kind = plain_sentence line kind

-- of a table. A returns file has lines of its own
abbrev pub sentence_in : Table → TableFault → List ℕ
sentence_in Returns tables.MissingField =
    codes "the line ends too early; a line has the name of a module, and then its codes"
sentence_in table tables.Memory = []
sentence_in table fault = table_fault_sentence fault

abbrev pub time_sentence : TimeFault → List ℕ
time_sentence times.Memory = []
time_sentence fault = time_fault_sentence fault

unfoldable pub facts_sentence : FactsFault → List ℕ
facts_sentence facts.BadFact =
    codes "the line says nothing of a module; write its name without .so, then checks, ignores, passes or fails, and kinds with their codes"
facts_sentence facts.NulByte = codes "the facts file has a NUL byte; remove it"
facts_sentence facts.Memory = []
facts_sentence facts.TooLong = codes "the facts file is longer than 1,048,576 bytes; shorten it"

unfoldable pub policy_sentence : PolicyFault → List ℕ
policy_sentence policy.MissingField = codes "the line ends too early; a rule has services, kinds and what is to hold of them"
policy_sentence policy.NulByte = codes "the policy has a NUL byte; remove it"
policy_sentence policy.Memory = []
policy_sentence policy.TableTooLong = codes "the policy is longer than 1,048,576 bytes; shorten it"
policy_sentence policy.BadCode = codes "a word is no return code, or no code is left; write one as success, failure or any"
policy_sentence policy.BadServices = codes "the first word is no list of services; write names with commas between them, as sshd,login, or *"
policy_sentence policy.BadKinds = codes "the second word is no list of kinds; write auth, account, password or session, with commas between them, or *"
policy_sentence policy.BadVerb =
    codes "the verb is none, or cannot stand there; write needs, obeys, asks, always asks, or never or can with asks, succeeds, fails, ends or decides"
policy_sentence policy.BadEvent = codes "a word is no module; write one as pam_unix, pam_unix[ARGUMENT] or pam_unix=CODES"
policy_sentence policy.BadList = codes "the list joins by both and and or, or by or after obeys, or has too many modules; write two rules"
policy_sentence policy.NoAnswers = codes "a module after with or without has no codes; write them after =, as =success"
policy_sentence policy.ExtraWord = codes "a word stands after the end of the rule; join modules by and, or by or"
policy_sentence policy.TooManyRules = codes "the policies have more than 1,000 rules; judge them one after the other"

unfoldable pub accept_sentence : AcceptError → List ℕ
accept_sentence (accept.BadAccept line) =
    codes "the line is no finding and its place; write L1 login:3 for a line, S2 login auth for a stack, or S7 Login for a file"
accept_sentence accept.Memory = []
accept_sentence (accept.Source (source.NulByte line)) = codes "the accept file has a NUL byte; remove it"
accept_sentence (accept.Source source.TooLong) = codes "the accept file is longer than 1,048,576 bytes; shorten it"

unfoldable pub moment_sentence : MomentError → List ℕ
moment_sentence moment.Range = codes "the moment is after 9999-12-30T22:00:00Z; count seconds, and not milliseconds"
moment_sentence moment.Rule = codes "the value of --zone is no POSIX zone rule; write one as CET-1CEST,M3.5.0,M10.5.0/3"
moment_sentence moment.Memory = []
moment_sentence moment.Syntax = codes "the value of --at is no date and time that exist; write one as 2024-05-06T10:00"

abbrev pub states_sentence : List ℕ
states_sentence = codes "a run of the stack can be at more than 65,536 places; say what modules can answer, with --set or --returns"

-- THE SENTENCE, or nothing where the line of the fault says all
unfoldable pub refusal_sentence : Fault → List ℕ
refusal_sentence (faults.Conf e) = conf_sentence e.line e.kind
refusal_sentence (faults.Table e) = sentence_in e.error.table e.error.fault
refusal_sentence (faults.Time e) = time_sentence e.fault
refusal_sentence (faults.Facts e) = facts_sentence e.fault
refusal_sentence (faults.Policy e) = policy_sentence e.error.fault
refusal_sentence (faults.Accept e) = accept_sentence e
refusal_sentence (faults.Moment e) = moment_sentence e
refusal_sentence faults.TooManyStates = states_sentence
refusal_sentence fault = []
