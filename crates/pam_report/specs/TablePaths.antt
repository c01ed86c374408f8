-- The paths of the tables of a host.
use Rattle.std.specs.Prelude.{ℕ, List, [], slice_get, unwrap_or}
use Rattle.std.specs.Option.{option_map_or}
use Rattle.pam_findings.specs.declared.tables.problem.HostTable.{HostTable}
use Rattle.pam_findings.specs.declared.tables.problem.HostTable.TheVariants.{Groups, Access, Time}
use Rattle.pam_report.specs.declared.tables.TablePaths.{TablePaths}

-- the path under which each table was read, those of the access tables in the order in which they are read; empty if it is not given
pub record TablePathsText : Type 0 where
  pub groups : List ℕ
  pub access : List (List ℕ)
  pub time : List ℕ

abbrev pub table_paths_view : TablePaths → TablePathsText
table_paths_view paths = record {
  groups = paths.groups.now;
  access = option_map_or (λ p. p.now) paths.access [];
  time = paths.time.now;
}

-- the path of a table; of access tables it is the one of this number, from 0
abbrev pub path_of : TablePathsText → HostTable → ℕ → List ℕ
path_of paths Groups number = paths.groups
path_of paths Access number = unwrap_or (slice_get paths.access number) []
path_of paths Time number = paths.time
