-- Which tables are read for a stack. A fault, want of memory too, names one of these.
use Rattle.std.specs.Prelude.{◌≡◌, ℕ, Bool, true, false, ◌&&◌, is_some}
use Rattle.std.specs.List.{list_any}
use Rattle.std.specs.Option.{option_map_or}
use Rattle.pam_conf.specs.Stack.{Items, module_at}
use Rattle.pam_conf.specs.declared.rule.Kind.{Kind}
use Rattle.pam_tables.specs.declared.error.Table.{Table}
use Rattle.pam_tables.specs.declared.error.Table.TheVariants.{Access, Group, Returns}
use Rattle.pam_facts.specs.known.Answers.{time_read}
use Rattle.pam_facts.specs.known.Knowledge.{numbers, reads_access}
use Rattle.pam_facts.specs.known.Tables.{TablesText}
use Rattle.pam_facts.specs.declared.known.error.KnownError.{KnownError}
use Rattle.pam_facts.specs.declared.known.error.KnownError.TheVariants as known

-- whether a module reads the time table
abbrev pub reads_time : Kind → TablesText → Items → ℕ → Bool
reads_time kind tables items number = option_map_or (λ m. is_some (time_read kind tables m)) (module_at number items) false

-- whether each table is read
pub record TablesRead : Type 0 where
  pub groups : Bool
  pub access : Bool
  pub time : Bool
  pub returns : Bool

-- THE TABLES that are read for a stack: the access tables or the time table that a module reads; the group file, if it is
-- given and a module reads the access tables; and the returns file, if it is given
abbrev pub tables_read : Kind → TablesText → Items → TablesRead
tables_read kind tables items = record {
  groups = is_some tables.groups && list_any (reads_access tables items) (numbers items);
  access = list_any (reads_access tables items) (numbers items);
  time = list_any (reads_time kind tables items) (numbers items);
  returns = is_some tables.returns;
}

abbrev pub is_read : TablesRead → Table → Bool
is_read read Access = read.access
is_read read Group = read.groups
is_read read Returns = read.returns

-- a fault is of a table that is read
abbrev pub IsOfRead : TablesRead → KnownError → Type 0
IsOfRead read (known.Table e) = is_read read e.error.table ≡ true
IsOfRead read (known.Time e) = read.time ≡ true
