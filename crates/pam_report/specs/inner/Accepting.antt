-- For private contracts and proofs alone: the findings that are meant to be.
use Rattle.std.specs.Prelude.{◌≡◌, ℕ, List}
use Rattle.pam_findings.specs.accepted.Lines.{Accepted}
use Rattle.pam_conf.specs.Files.{Folder}
use Rattle.pam_findings.specs.declared.host.problem.Place.{Place}
use Rattle.pam_findings.specs.declared.host.report.Finding.{Finding}
use Rattle.pam_findings.specs.declared.tables.problem.TableFinding.{TableFinding}
use Rattle.pam_report.specs.declared.report.accepting.Listed.{Listed}
use Rattle.pam_report.specs.TablePaths.{TablePathsText}
use Rattle.pam_report.specs.Accepting.{not_accepted, tables_not_accepted, lines_without, all_keys}

-- what is listed of these findings, and of these problems of tables
pub record IsListed (lines : List Accepted) (files : Folder) (services : List (List ℕ)) (all : List (Place × Finding)) (paths : TablePathsText)
    (tables : List TableFinding) (listed : Listed) : Type 0 where
  pub found : listed.found.items ≡ not_accepted lines files services all
  pub tables_found : listed.tables.items ≡ tables_not_accepted lines paths tables
  pub unused : listed.unused.items ≡ lines_without (all_keys files services all paths tables) lines
