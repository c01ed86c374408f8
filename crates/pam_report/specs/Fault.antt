-- The line of a fault: its number and name, and its place if it has one.
use Rattle.std.specs.Prelude.{⊤, ℕ, nat_lt, if◌then◌else◌, List, [], ◌∷◌, ◌++◌, codes, decimal, Option, Some, None, slice_get, string_bytes}
use Rattle.std.specs.List.{concat}
use Rattle.std.specs.Option.{option_map}
use Rattle.pam_conf.specs.Files.{Folder}
use Rattle.pam_conf.specs.declared.error.FaultKind.{FaultKind}
use Rattle.pam_conf.specs.declared.error.FaultKind.TheVariants as conf
use Rattle.pam_findings.specs.accepted.Error.{line_of as accept_line}
use Rattle.pam_findings.specs.declared.accepted.error.AcceptError.{AcceptError}
use Rattle.pam_findings.specs.declared.accepted.error.AcceptError.TheVariants as accept
use Rattle.pam_facts.specs.declared.error.FactsError.{FactsError}
use Rattle.pam_facts.specs.declared.error.FactsFault.{FactsFault}
use Rattle.pam_facts.specs.declared.error.FactsFault.TheVariants as facts
use Rattle.pam_facts.specs.declared.known.error.KnownError.{KnownError}
use Rattle.pam_facts.specs.declared.known.error.KnownError.TheVariants as known
use Rattle.pam_facts.specs.declared.known.error.NumberedError.{NumberedError}
use Rattle.pam_paths.specs.declared.cursor.CursorError.{CursorError}
use Rattle.pam_paths.specs.declared.cursor.CursorError.TheVariants as cursor
use Rattle.pam_report.specs.FaultTable.{Row, accept_row, candidate_row, conf_row, count_row, cursor_row, facts_row, graph_row, input_row, key_row, memory_row}
use Rattle.pam_report.specs.FaultTable.{module_row, moment_row, number_row, policy_row, read_row, service_row, table_name, table_row, time_row, usage_row, write_row}
use Rattle.pam_policy.specs.declared.text.error.PolicyError.{PolicyError}
use Rattle.pam_policy.specs.declared.text.error.PolicyFault.{PolicyFault}
use Rattle.pam_policy.specs.declared.text.error.PolicyFault.TheVariants as policy
use Rattle.pam_report.specs.declared.fault.policies.PolicyFileError.{PolicyFileError}
use Rattle.pam_report.specs.declared.fault.Fault.{Fault}
use Rattle.pam_report.specs.declared.fault.Fault.TheVariants as faults
use Rattle.pam_report.specs.declared.inputs.InputError.{InputError}
use Rattle.pam_report.specs.declared.inputs.InputError.TheVariants as inputs
use Rattle.pam_tables.specs.declared.error.Table.{Table}
use Rattle.pam_tables.specs.declared.error.TableFault.{TableFault}
use Rattle.pam_tables.specs.declared.error.TableFault.TheVariants as table
use Rattle.pam_tables.specs.declared.times.error.TimeFault.{TimeFault}
use Rattle.pam_tables.specs.declared.times.error.TimeFault.TheVariants as time
use Rattle.pam_words.specs.declared.wanted.Usage.{Usage}
use Rattle.pam_words.specs.declared.wanted.Usage.TheVariants.{Help, Words}

abbrev pub fault_of_facts : FactsFault → FactsError → Fault
fault_of_facts facts.Memory e = faults.Memory
fault_of_facts fault e = faults.Facts e

-- the fault of a table that modules read
abbrev pub known_fault : KnownError → Fault
known_fault (known.Table e) = faults.Table e
known_fault (known.Time e) = faults.Time e

-- the fault of a table that is the only one of its kind, or the first
abbrev pub table_fault : Table → TableFault × ℕ → Fault
table_fault t e = faults.Table (record { number = 1; error = record { table = t; fault = e.0; line = e.1 } })

-- the fault of a facts file and of an accept file. A failed allocation has no place
abbrev pub facts_fault : FactsError → Fault
facts_fault e = fault_of_facts e.fault e

abbrev pub accept_fault : AcceptError → Fault
accept_fault accept.Memory = faults.Memory
accept_fault e = faults.Accept e

-- the fault of the policy of a number, from 1. A failed allocation has no place
abbrev pub fault_of_policy : PolicyFault → PolicyFileError → Fault
fault_of_policy policy.Memory e = faults.Memory
fault_of_policy fault e = faults.Policy e

abbrev pub policy_fault : ℕ → PolicyError → Fault
policy_fault number e = fault_of_policy e.fault (record { number = number; error = e })

-- the row of a fault in the table
abbrev pub row_of : Fault → Row
row_of (faults.Conf e) = conf_row e.kind
row_of (faults.Table e) = table_row e.error.fault
row_of (faults.Time e) = time_row e.fault
row_of (faults.Facts e) = facts_row e.fault
row_of (faults.Policy e) = policy_row e.error.fault
row_of (faults.Accept e) = accept_row e
row_of (faults.Moment e) = moment_row e
row_of (faults.Count e) = count_row
row_of faults.TooManyStates = graph_row
row_of faults.NoSuchModule = module_row
row_of faults.NoSuchKey = key_row
row_of faults.NoSuchNumber = number_row
row_of faults.NoSuchService = service_row
row_of faults.UnusedCandidate = candidate_row
row_of faults.Unread = read_row
row_of (faults.Cursor e) = cursor_row e
row_of faults.Device = write_row
row_of faults.Memory = memory_row

-- ---- places

-- the name of the file at a position, if there is one
abbrev pub file_at : Folder → Option ℕ → Option (List ℕ)
file_at files None = None
file_at files (Some position) = option_map (λ f. f.0) (slice_get files.entries position)

-- the file of a fault. A failed allocation has no place
abbrev pub conf_file : Folder → Option ℕ → FaultKind → Option (List ℕ)
conf_file files at conf.Memory = None
conf_file files at kind = file_at files at

-- the table of a fault, in place of a file
abbrev pub table_file : Table → TableFault → Option (List ℕ)
table_file t table.Memory = None
table_file t fault = Some (table_name t)

abbrev pub time_file : TimeFault → Option (List ℕ)
time_file time.Memory = None
time_file fault = Some (codes "time")

-- the same of a facts file and of an accept file
abbrev pub facts_file : FactsFault → Option (List ℕ)
facts_file facts.Memory = None
facts_file fault = Some (codes "facts")

abbrev pub accept_file : AcceptError → Option (List ℕ)
accept_file accept.Memory = None
accept_file e = Some (codes "accept")

-- the same of a policy
abbrev pub policy_file : PolicyFault → Option (List ℕ)
policy_file policy.Memory = None
policy_file fault = Some (codes "policy")

-- ` FILE:LINE`, if there is a file
abbrev pub line_place : Option (List ℕ) → ℕ → List ℕ
line_place None line = []
line_place (Some file) line = concat (codes " " ∷ file ∷ codes ":" ∷ decimal line ∷ [])

-- ` TABLE:LINE`, and ` TABLE[N]:LINE` for the access table or the policy of a number after the first. A failed allocation has no place
abbrev pub place_in_table : ℕ → Option (List ℕ) → ℕ → List ℕ
place_in_table number None line = []
place_in_table number (Some name) line =
    if nat_lt 1 number then concat (codes " " ∷ name ∷ codes "[" ∷ decimal number ∷ codes "]:" ∷ decimal line ∷ []) else line_place (Some name) line

abbrev pub table_place : NumberedError → List ℕ
table_place e = place_in_table e.number (table_file e.error.table e.error.fault) e.error.line

abbrev pub policy_place : PolicyFileError → List ℕ
policy_place e = place_in_table e.number (policy_file e.error.fault) e.error.line

-- ` step N`, for the code of a cursor with this number, from 1
abbrev pub cursor_place : CursorError → List ℕ
cursor_place (cursor.NotLeast step) = concat (codes " step " ∷ decimal step ∷ [])
cursor_place e = []

abbrev pub place_of : Folder → Fault → List ℕ
place_of files (faults.Conf e) = line_place (conf_file files e.at e.kind) e.line
place_of files (faults.Table e) = table_place e
place_of files (faults.Time e) = line_place (time_file e.fault) e.line
place_of files (faults.Facts e) = line_place (facts_file e.fault) e.line
place_of files (faults.Policy e) = policy_place e
place_of files (faults.Accept e) = line_place (accept_file e) (accept_line e)
place_of files (faults.Count e) = concat (codes " want " ∷ decimal e.modules ∷ [])
place_of files (faults.Cursor e) = cursor_place e
place_of files fault = []

-- the name as given on the command line, or that of an entry of the folder
abbrev pub input_place : InputError → List ℕ
input_place (inputs.Read name why) = concat (codes " " ∷ string_bytes name ∷ [])
input_place inputs.Memory = []

-- ---- lines and statuses

-- `pamcheck: NUMBER NAME`, the place, and a line feed
abbrev pub line_of : Row → List ℕ → List ℕ
line_of r place = codes "pamcheck: " ++ r.name ++ place ++ codes "\n"

-- THE LINE of a fault
unfoldable pub fault_line : Folder → Fault → List ℕ
fault_line files fault = line_of (row_of fault) (place_of files fault)

abbrev pub status_of_fault : Fault → ℕ
status_of_fault fault = (row_of fault).status

-- THE LINE of an input that cannot be read
unfoldable pub input_line : InputError → List ℕ
input_line e = line_of (input_row e) (input_place e)

abbrev pub status_of_input : InputError → ℕ
status_of_input e = (input_row e).status

-- words that are refused with a line of their own. The others have the text of `clap`
abbrev pub IsNumbered : Usage → Type 0
IsNumbered (Help error) = ⊥
IsNumbered (Words error) = ⊥
IsNumbered _ = ⊤

-- THE LINE of words that are refused
unfoldable pub usage_line : Usage → List ℕ
usage_line usage = line_of (usage_row usage) []

abbrev pub status_of_usage : Usage → ℕ
status_of_usage usage = (usage_row usage).status
