-- Want of memory of the tables of `paths`.
use Rattle.std.proofs.Common.{◌≡◌, ◌&&◌, List, true, refl, subst}
use Rattle.std.specs.Prelude.{Option, Some, None, is_some, option_map}
use Rattle.jiff.specs.Types.{DateTime}
use Rattle.pam_conf.specs.Stack.{Items}
use Rattle.pam_conf.specs.declared.rule.Kind.{Kind}
use Rattle.pam_facts.proofs.KnownProofs.ReadTables.{read_is_given}
use Rattle.pam_facts.specs.Rows.{Row}
use Rattle.pam_facts.specs.known.Reads.{IsOfRead, TablesRead, is_read, tables_read}
use Rattle.pam_facts.specs.known.inner.Sets.{all_given}
use Rattle.pam_facts.specs.declared.known.error.KnownError.{KnownError}
use Rattle.pam_facts.specs.declared.known.error.KnownError.TheVariants as known
use Rattle.pam_tables.specs.declared.error.Table.{Table}
use Rattle.pam_tables.specs.declared.error.Table.TheVariants.{Access, Group, Returns}
use Rattle.pam_report.specs.Fault.{known_fault}
use Rattle.pam_report.specs.Inputs.{tables_given, timed}
use Rattle.pam_report.specs.Memory.{IsWanting, of_paths, paths_tables, wants_table}
use Rattle.pam_report.specs.declared.inputs.Inputs.{Inputs}
use Rattle.pam_report.specs.declared.inputs.Inputs.TheVariants as inputs
use Rattle.pam_report.specs.declared.inputs.TableFile.{TableFile}

-- a time table is given where one is read
time_is : (time : Option TableFile) (moment : Option DateTime) → is_some (timed time moment) ≡ (is_some time && is_some moment)
time_is (Some table) (Some moment) = refl
time_is (Some table) None = refl
time_is None moment = refl

map_is : {A B : Type 0} (f : A → B) (given : Option A) → is_some (option_map f given) ≡ is_some given
map_is f (Some x) = refl
map_is f None = refl

table_wanted : (given : TablesRead) (table : Table) → is_read given table ≡ true → wants_table (of_paths given) table ≡ true
table_wanted given Access h = h
table_wanted given Group h = h
table_wanted given Returns h = h

wanted : (given : TablesRead) (e : KnownError) → IsOfRead given e → IsWanting (of_paths given) (known_fault e)
wanted given (known.Table e) h = λ memory. table_wanted given e.error.table h
wanted given (known.Time e) h = λ memory. h

given_are : (inputs : Inputs) (facts : Option (List Row)) (moment : Option DateTime)
    → all_given (tables_given inputs facts moment) ≡ paths_tables (is_some moment) inputs
given_are (inputs.Paths files given) facts moment =
    rw (
      map_is (λ t. t.bytes.items) given.tables.groups,
      map_is (λ b. b.items) given.returns,
      time_is given.tables.time moment,
    ) refl
given_are (inputs.Host files paths given) facts moment = refl
given_are (inputs.Sides old new file returns) facts moment = refl
given_are inputs.Nothing facts moment = refl
given_are (inputs.Stack files) facts moment = refl
given_are (inputs.Access tables groups) facts moment = refl
given_are (inputs.Time table) facts moment = refl

-- a fault of the tables that are read for a stack
pub wanted-given : (kind : Kind) (inputs : Inputs) (facts : Option (List Row)) (moment : Option DateTime) (items : Items) (e : KnownError)
    → IsOfRead (tables_read kind (tables_given inputs facts moment) items) e → IsWanting (of_paths (paths_tables (is_some moment) inputs)) (known_fault e)
wanted-given kind inputs facts moment items e h =
    subst (λ (given : TablesRead). IsWanting (of_paths given) (known_fault e)) (given_are inputs facts moment)
    (wanted (all_given (tables_given inputs facts moment)) e (read_is_given kind (tables_given inputs facts moment) items e h))
