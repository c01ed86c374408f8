-- For private contracts and proofs alone: which findings are reported, and which are not.
use Rattle.std.specs.Prelude.{◌≡◌, ◌≢◌, ⊤, ℕ, List, Ok, Err, Option, map}
use Rattle.std.specs.BTreeMap.{BTreeMap}
use Rattle.pam_findings.specs.accepted.Lines.{Accepted, accepted_lines}
use Rattle.pam_findings.specs.declared.accepted.error.AcceptError.TheVariants as accept
use Rattle.pam_conf.specs.Files.{Folder}
use Rattle.pam_facts.specs.Reading.{known_rows}
use Rattle.pam_facts.specs.Rows.{Row}
use Rattle.pam_facts.specs.declared.error.FactsFault.TheVariants as facts_faults
use Rattle.pam_findings.specs.host.Links.{WithLinks, told_way}
use Rattle.pam_findings.specs.host.Report.{IsReport}
use Rattle.pam_conf.specs.Services.{checked_services}
use Rattle.pam_findings.specs.declared.host.problem.Place.{Place}
use Rattle.pam_findings.specs.declared.host.report.Finding.{Finding}
use Rattle.pam_findings.specs.declared.host.report.HostReport.{HostReport}
use Rattle.pam_findings.specs.declared.host.way_in.WayIn.{WayIn}
use Rattle.pam_findings.specs.tables.Report.{IsTableReport}
use Rattle.pam_findings.specs.declared.tables.problem.TableFinding.{TableFinding}
use Rattle.pam_findings.specs.declared.tables.problem.TablePlace.{TablePlace}
use Rattle.pam_report.specs.Accepting.{table_findings}
use Rattle.pam_report.specs.Inputs.{accept_given, facts_given, host_tables_given, named_files_given, outside_given, there_given, vendor_start_given}
use Rattle.pam_report.specs.declared.fault.Fault.{Fault}
use Rattle.pam_report.specs.declared.fault.Fault.TheVariants as faults
use Rattle.pam_report.specs.TablePaths.{TablePathsText}
use Rattle.pam_report.specs.declared.inputs.Inputs.{Inputs}
use Rattle.pam_report.specs.declared.report.accepting.Listed.{Listed}
use Rattle.pam_report.specs.inner.Accepting.{IsListed}

-- a report by what the facts file says
pub record IsReported (services : List (List ℕ)) (files : Folder) (inputs : Inputs) (report : HostReport) : Type 0 where
  pub facts : List Row
  pub known : known_rows (facts_given inputs) ≡ Ok facts
  pub are_services : report.services ≡ checked_services files services
  pub plain : BTreeMap Place Finding
  pub ways : List (Option WayIn)
  pub is_report : IsReport files (vendor_start_given inputs) services facts (there_given inputs) (named_files_given inputs) plain ways
  pub links : WithLinks (outside_given inputs) plain report.found
  pub told_ways : report.ways_in.items ≡ map (told_way (outside_given inputs)) ways

-- a fault of the facts file, or a failed allocation
abbrev pub IsUnreported : Inputs → Fault → Type 0
IsUnreported inputs (faults.Facts e) = (known_rows (facts_given inputs) ≡ Err e) × (e.fault ≢ facts_faults.Memory)
IsUnreported inputs faults.Memory = ⊤
IsUnreported inputs fault = ⊥

-- the lines of the accept file
abbrev pub IsAccepted : Inputs → List Accepted → Type 0
IsAccepted inputs lines = accepted_lines (accept_given inputs) ≡ Ok lines

-- a fault of the accept file, or a failed allocation
abbrev pub IsUnaccepted : Inputs → Fault → Type 0
IsUnaccepted inputs (faults.Accept e) = (accepted_lines (accept_given inputs) ≡ Err e) × (e ≢ accept.Memory)
IsUnaccepted inputs faults.Memory = ⊤
IsUnaccepted inputs fault = ⊥

-- what is listed of the findings of a report, and of the problems of the tables that its services need
pub record IsListedFrom (files : Folder) (inputs : Inputs) (services : List (List ℕ)) (all : List (Place × Finding)) (paths : TablePathsText)
    (listed : Listed) : Type 0 where
  pub lines : List Accepted
  pub accepted : IsAccepted inputs lines
  pub tables : BTreeMap TablePlace TableFinding
  pub table_report : IsTableReport files services (host_tables_given inputs) tables
  pub is_listed : IsListed lines files services all paths (table_findings tables) listed
