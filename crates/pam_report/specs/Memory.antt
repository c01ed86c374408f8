-- Want of memory: the faults that a failed allocation may give, by the task.
use Rattle.std.specs.Prelude.{◌≡◌, ◌≢◌, ⊤, Bool, ◌&&◌, true, false, is_some, Result, IfErr}
use Rattle.pam_findings.specs.declared.accepted.error.AcceptError.TheVariants as accept
use Rattle.pam_conf.specs.declared.error.FaultKind.TheVariants as conf
use Rattle.pam_facts.specs.declared.error.FactsFault.TheVariants as facts
use Rattle.pam_facts.specs.known.Reads.{TablesRead}
use Rattle.pam_policy.specs.declared.text.error.PolicyFault.TheVariants as policy
use Rattle.pam_tables.specs.declared.error.Table.{Table}
use Rattle.pam_tables.specs.declared.error.Table.TheVariants.{Access as AccessTable, Group, Returns}
use Rattle.pam_tables.specs.declared.error.TableFault.TheVariants as reasons
use Rattle.pam_tables.specs.declared.times.error.TimeFault.TheVariants as times
use Rattle.pam_words.specs.declared.wanted.Task.{Task}
use Rattle.pam_words.specs.declared.wanted.Task.TheVariants.{Check, Compare, Show, Decide, Access, Time, Paths, Outcomes, Graph, Policy, Needs}
use Rattle.pam_words.specs.declared.wanted.Task.TheVariants.{Explain, Facts, Version}
use Rattle.pam_report.specs.Inputs.{group_file, has_access, returns_given}
use Rattle.pam_report.specs.declared.fault.Fault.{Fault}
use Rattle.pam_report.specs.declared.fault.Fault.TheVariants as faults
use Rattle.pam_report.specs.declared.inputs.Inputs.{Inputs}
use Rattle.pam_report.specs.declared.inputs.Inputs.TheVariants as inputs

-- what is read or made, and may want memory
pub record Wants : Type 0 where
  -- the configuration: E17
  pub configuration : Bool
  -- a table of each kind: TE11
  pub access : Bool
  pub groups : Bool
  pub returns : Bool
  pub time : Bool
  -- what is made of them, as the program of a stack: E17, too
  pub work : Bool

-- a stack is read, and no table
abbrev pub of_stack : Bool → Wants
of_stack work = record { configuration = true; access = false; groups = false; returns = false; time = false; work = work }

-- two configurations are read, and the returns file, if there is one
abbrev pub of_compare : Bool → Wants
of_compare returns = record { configuration = true; access = false; groups = false; returns = returns; time = false; work = true }

-- nothing is read
abbrev pub of_nothing : Wants
of_nothing = record { configuration = false; access = false; groups = false; returns = false; time = false; work = false }

-- a login is looked up in tables, with no configuration
abbrev pub of_tables : Bool → Bool → Bool → Wants
of_tables access groups time = record { configuration = false; access = access; groups = groups; returns = false; time = time; work = true }

-- the tables of `paths` that are given, at a moment or at none
abbrev pub paths_tables : Bool → Inputs → TablesRead
paths_tables timed (inputs.Paths files given) = record {
  groups = is_some given.tables.groups;
  access = has_access given.tables.access;
  time = is_some given.tables.time && timed;
  returns = is_some given.returns;
}
paths_tables timed _ = record { groups = false; access = false; time = false; returns = false }

-- a stack is read, and these tables
abbrev pub of_paths : TablesRead → Wants
of_paths given = record {
  configuration = true;
  access = given.access;
  groups = given.groups;
  returns = given.returns;
  time = given.time;
  work = true;
}

-- THE WANTS of a task with these inputs
abbrev pub wants : Task → Inputs → Wants
wants (Check source services fail_on named) inputs = of_stack true
wants (Compare old new service kind named) inputs = of_compare (is_some (returns_given inputs))
wants (Explain number) inputs = of_nothing
wants Facts inputs = of_nothing
wants Version inputs = of_nothing
wants (Show source kind release) inputs = of_stack false
wants (Decide source kind answered) inputs = of_stack true
wants (Access table groups passwd login arguments) inputs = of_tables true (is_some (group_file inputs)) false
wants (Time table login moment) inputs = of_tables false false true
wants (Paths source kind limit part filter knowledge) inputs = of_paths (paths_tables (is_some knowledge.moment) inputs)
wants (Outcomes source kind knowledge) inputs = of_paths (paths_tables (is_some knowledge.moment) inputs)
wants (Graph source kind format knowledge) inputs = of_paths (paths_tables (is_some knowledge.moment) inputs)
wants (Needs source kind knowledge) inputs = of_paths (paths_tables (is_some knowledge.moment) inputs)
wants (Policy source names fail_on knowledge) inputs = of_paths (paths_tables (is_some knowledge.moment) inputs)

abbrev pub wants_table : Wants → Table → Bool
wants_table wants AccessTable = wants.access
wants_table wants Group = wants.groups
wants_table wants Returns = wants.returns

-- if the fault is a failed allocation, it is one of these
abbrev pub IsWanting : Wants → Fault → Type 0
IsWanting wants faults.Memory = wants.work ≡ true
IsWanting wants (faults.Conf e) = e.kind ≡ conf.Memory → wants.configuration ≡ true
IsWanting wants (faults.Table e) = e.error.fault ≡ reasons.Memory → wants_table wants e.error.table ≡ true
IsWanting wants (faults.Time e) = e.fault ≡ times.Memory → wants.time ≡ true
IsWanting wants (faults.Facts e) = e.fault ≢ facts.Memory
IsWanting wants (faults.Policy e) = e.error.fault ≢ policy.Memory
IsWanting wants (faults.Accept e) = e ≢ accept.Memory
IsWanting wants _ = ⊤

-- the same, for a result
abbrev pub WantsOnly : {A : Type 0} → Wants → Result A Fault → Type 0
WantsOnly wants result = IfErr result (IsWanting wants)
