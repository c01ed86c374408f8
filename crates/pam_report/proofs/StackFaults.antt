-- The fault of a table at the stack of a service: what is answered, and which memory it wants.
use Rattle.std.proofs.Common.{◌≡◌, ℕ, List, Option, Err, refl, subst}
use Rattle.std.specs.Prelude.{is_some}
use Rattle.jiff.specs.Types.{DateTime}
use Rattle.pam_conf.specs.declared.rule.Kind.{Kind}
use Rattle.pam_facts.specs.Rows.{Row}
use Rattle.pam_facts.specs.declared.known.error.KnownError.{KnownError}
use Rattle.pam_facts.specs.declared.known.error.KnownError.TheVariants as known
use Rattle.pam_facts.specs.declared.known.error.NumberedError.{NumberedError}
use Rattle.pam_facts.specs.known.Access.{IsTableFault as IsFaultOfTable}
use Rattle.pam_facts.specs.known.Answers.{IsTimeFault as IsFaultOfTime}
use Rattle.pam_facts.specs.known.Reads.{IsOfRead, tables_read}
use Rattle.pam_facts.specs.known.Tables.{TablesText}
use Rattle.pam_policy.specs.host.Answers.{answers_of}
use Rattle.pam_policy.specs.host.HostStacks.{IsFaultAt}
use Rattle.pam_policy.specs.host.Sources.{SourcesText}
use Rattle.pam_tables.specs.declared.error.TableFault.{TableFault}
use Rattle.pam_tables.specs.declared.error.TableFault.TheVariants as tables
use Rattle.pam_tables.specs.declared.times.error.TimeError.{TimeError}
use Rattle.pam_tables.specs.declared.times.error.TimeFault.{TimeFault}
use Rattle.pam_tables.specs.declared.times.error.TimeFault.TheVariants as times
use Rattle.pam_report.proofs.Wanting.{wanted-given}
use Rattle.pam_report.specs.Fault.{known_fault}
use Rattle.pam_report.specs.Finds.{IsTableFault, IsTimeFault, Refuses}
use Rattle.pam_report.specs.Inputs.{tables_given}
use Rattle.pam_report.specs.Memory.{IsWanting, of_paths, paths_tables}
use Rattle.pam_report.specs.Reply.{Answer}
use Rattle.pam_report.specs.declared.fault.Fault.TheVariants as faults
use Rattle.pam_report.specs.declared.inputs.Inputs.{Inputs}

module _ (sources : SourcesText) (name : List ℕ) (kind : Kind) where
  -- the fault of a table, if an answer with it is right
  module _ (IsAnswer : Answer → Type 0) where
    of-table : (e : NumberedError) (fault : TableFault) → e.error.fault ≡ fault → IsFaultAt sources name kind (known.Table e)
        → IsAnswer (Err (faults.Table e)) → IsTableFault IsAnswer e fault
    of-table e tables.Memory same at exact =
        subst (λ (f : TableFault). IsFaultOfTable f e.error.line (answers_of sources name kind at.items ≡ Err (known.Table e))) same at.first
    of-table e _ same at exact = exact

    of-time : (e : TimeError) (fault : TimeFault) → e.fault ≡ fault → IsFaultAt sources name kind (known.Time e)
        → IsAnswer (Err (faults.Time e)) → IsTimeFault IsAnswer e fault
    of-time e times.Memory same at exact =
        subst (λ (f : TimeFault). IsFaultOfTime f e.line (answers_of sources name kind at.items ≡ Err (known.Time e))) same at.first
    of-time e _ same at exact = exact

    pub of-known : (error : KnownError) → IsFaultAt sources name kind error → IsAnswer (Err (known_fault error)) → Refuses IsAnswer (known_fault error)
    of-known (known.Table e) at exact = of-table e e.error.fault refl at exact
    of-known (known.Time e) at exact = of-time e e.fault refl at exact

  -- the tables that are read for the stack are given
  pub wanting-at : (inputs : Inputs) (rows : Option (List Row)) (moment : Option DateTime) (error : KnownError)
      → sources.tables ≡ tables_given inputs rows moment → IsFaultAt sources name kind error
      → IsWanting (of_paths (paths_tables (is_some moment) inputs)) (known_fault error)
  wanting-at inputs rows moment error same at =
      wanted-given kind inputs rows moment at.items error (subst (λ (t : TablesText). IsOfRead (tables_read kind t at.items) error) same at.read)
