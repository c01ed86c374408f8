-- What is wrong with the tables of a host: access.conf(5), time.conf(5), group(5).
use Rattle.std.specs.Prelude.{ℕ, List, [], ◌∷◌, ◌++◌, map, Option}
use Rattle.std.specs.List.{enumerate_from, flat_map}
use Rattle.std.specs.Option.{option_map, option_map_or}
use Rattle.pam_released.specs.tables.Access.{access_findings}
use Rattle.pam_released.specs.tables.Times.{time_findings}
use Rattle.pam_released.specs.declared.tables.finding.TableFinding.{TableFinding as Difference}
use Rattle.pam_tables.specs.Faults.{access_faults, group_faults}
use Rattle.pam_tables.specs.Options.{Options}
use Rattle.pam_tables.specs.declared.error.TableError.{TableError}
use Rattle.pam_text.specs.Source.{source_fault}
use Rattle.pam_tables.specs.times.Faults.{time_faults}
use Rattle.pam_tables.specs.declared.times.error.TimeError.{TimeError}
use Rattle.pam_findings.specs.tables.Needs.{Need, OfAccess, OfGroups, OfTime}
use Rattle.pam_findings.specs.declared.tables.problem.HostTable.{HostTable}
use Rattle.pam_findings.specs.declared.tables.problem.HostTable.TheVariants.{Groups, Access, Time}
use Rattle.pam_findings.specs.declared.tables.problem.TableFinding.{TableFinding}
use Rattle.pam_findings.specs.declared.tables.problem.TableProblem.TheVariants.{Fault, TimeFault, Released}
use Rattle.pam_findings.specs.declared.tables.host_tables.HostTables.{HostTables}

-- a fault, and a difference, as a problem of a table; of access tables it is the one of this number
abbrev pub of_fault : HostTable → ℕ → TableError → TableFinding
of_fault table number error = record { table = table; number = number; line = error.line; problem = Fault error.fault }

abbrev pub of_time_fault : TimeError → TableFinding
of_time_fault error = record { table = Time; number = 0; line = error.line; problem = TimeFault error.fault }

abbrev pub of_difference : HostTable → ℕ → Difference → TableFinding
of_difference table number found = record { table = table; number = number; line = found.line; problem = Released found.difference }

-- a table that is too long or has a NUL byte has no differences
abbrev pub unless_refused : List ℕ → List Difference → List Difference
unless_refused bytes found = option_map_or (λ _. []) (source_fault bytes) found

-- THE PROBLEMS of a group file, of the access table of a number that is read with some options, and of a time table
abbrev pub group_problems : List ℕ → List TableFinding
group_problems bytes = map (of_fault Groups 0) (group_faults bytes)

abbrev pub access_problems : Options → ℕ → List ℕ → List TableFinding
access_problems options number bytes =
    map (of_fault Access number) (access_faults options bytes)
    ++ map (of_difference Access number) (unless_refused bytes (access_findings options bytes))

abbrev pub time_problems : List ℕ → List TableFinding
time_problems bytes = map of_time_fault (time_faults bytes) ++ map (of_difference Time 0) (unless_refused bytes (time_findings bytes))

-- the problems of access tables, each judged by itself, where the first has this number
abbrev pub all_access_problems : Options → ℕ → List (List ℕ) → List TableFinding
all_access_problems options number contents = flat_map (λ (p : ℕ × List ℕ). access_problems options p.0 p.1) (enumerate_from number contents)

-- the tables of a host, as far as they are given, the access tables in the order in which they are read
pub record TablesText : Type 0 where
  pub groups : Option (List ℕ)
  pub access : List (List ℕ)
  pub time : Option (List ℕ)

abbrev pub tables_view : HostTables → TablesText
tables_view t = record {
  groups = option_map (λ b. b.now) t.groups;
  access = option_map_or (λ t. t.now) t.access [];
  time = option_map (λ b. b.now) t.time;
}

-- problems that count only beside an access table
abbrev pub beside : List (List ℕ) → List TableFinding → List TableFinding
beside [] problems = []
beside (table ∷ others) problems = problems

-- the problems of a table that is needed. The group file is looked at only beside an access table
abbrev pub problems_for : TablesText → Need → List TableFinding
problems_for tables OfGroups = beside tables.access (option_map_or group_problems tables.groups [])
problems_for tables (OfAccess options) = all_access_problems options 0 tables.access
problems_for tables OfTime = option_map_or time_problems tables.time []
