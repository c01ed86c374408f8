-- For private contracts and proofs alone: the reply of `needs`.
use Rattle.std.specs.Prelude.{◌≡◌, ◌⊎◌, List, Result, Ok, Err, map}
use Rattle.std.specs.Char.{to_ascii_lowercase}
use Rattle.pam_conf.specs.declared.conf_error.ConfError.{ConfError}
use Rattle.pam_conf.specs.declared.error.FaultKind.{FaultKind}
use Rattle.pam_conf.specs.declared.error.FaultKind.TheVariants as conf
use Rattle.pam_facts.specs.Rows.{Row}
use Rattle.pam_facts.specs.declared.known.error.KnownError.{KnownError}
use Rattle.pam_facts.specs.known.Tables.{TablesText}
use Rattle.pam_facts.specs.settings.Settings.{setting_view}
use Rattle.pam_policy.specs.declared.host.stacks.StackClass.{StackClass}
use Rattle.pam_policy.specs.host.HostStacks.{IsClassOf, IsFaultAt}
use Rattle.pam_policy.specs.host.Sources.{SourcesText}
use Rattle.pam_report.specs.Fault.{known_fault}
use Rattle.pam_report.specs.Finds.{Finds}
use Rattle.pam_report.specs.Needs.{IsFrom, NeedsText}
use Rattle.pam_report.specs.Policy.{sources_by, visitor_of}
use Rattle.pam_report.specs.declared.fault.Fault.{Fault}
use Rattle.pam_report.specs.declared.fault.Fault.TheVariants as faults
use Rattle.pam_report.specs.declared.report.known_stack.Sources.{Sources}
use Rattle.pam_report.specs.declared.report.known_stack.StackRequest.{StackRequest}
use Rattle.pam_report.specs.declared.report.replies.Reply.{Reply}

-- the fault for which a stack is refused, where a failed allocation has no place
abbrev pub fault_of_conf : FaultKind → ConfError → Fault
fault_of_conf conf.Memory error = faults.Memory
fault_of_conf _ error = faults.Conf error

abbrev pub needs_text : Sources → StackRequest → NeedsText
needs_text sources asked = record {
  service = asked.service.now;
  kind = asked.kind;
  visitor = visitor_of asked.login;
  settings = map setting_view sources.settings.now;
  moment = sources.moment;
}

-- what the stack is found from, with these tables
abbrev pub stack_sources : Sources → StackRequest → TablesText → SourcesText
stack_sources sources asked tables = sources_by sources.files.now (visitor_of asked.login) (map setting_view sources.settings.now) tables

-- the fault of a table at the stack that is asked for
pub record IsFaultOfStack (asked : StackRequest) (sources : SourcesText) (fault : Fault) : Type 0 where
  pub error : KnownError
  pub same : fault ≡ known_fault error
  pub is_fault : IsFaultAt sources (map to_ascii_lowercase asked.service.now) asked.kind error

-- what is known of that stack, or the fault of a table, or a failed allocation
abbrev pub FindsClass : StackRequest → SourcesText → Result StackClass Fault → Type 0
FindsClass asked sources (Ok class) = IsClassOf sources (map to_ascii_lowercase asked.service.now) asked.kind class
FindsClass asked sources (Err fault) = (fault ≡ faults.Memory) ⊎ IsFaultOfStack asked sources fault

-- the rules of the stack, as these sources give them
abbrev pub FindsFrom : StackRequest → List Row → SourcesText → Result Reply Fault → Type 0
FindsFrom asked facts sources result = Finds result (IsFrom asked.service.now asked.kind facts sources)
