-- The problems of the tables of a host.
use Rattle.std.specs.Prelude.{◌≡◌, ◌↔◌, ℕ, List, All, Some}
use Rattle.std.specs.BTreeMap.{BTreeMap, IsOrdered, get}
use Rattle.pam_conf.specs.Files.{Folder}
use Rattle.pam_text.specs.Members.{Member}
use Rattle.pam_findings.specs.tables.Needs.{IsNeeded, Need}
use Rattle.pam_findings.specs.tables.Problems.{compare_places, place_of}
use Rattle.pam_findings.specs.tables.Tables.{TablesText, problems_for}
use Rattle.pam_findings.specs.declared.tables.problem.TableFinding.{TableFinding}
use Rattle.pam_findings.specs.declared.tables.problem.TablePlace.{TablePlace}

-- A PROBLEM of a table that a checked stack needs
pub record IsProblem (folder : Folder) (services : List (List ℕ)) (tables : TablesText) (finding : TableFinding) : Type 0 where
  pub need : Need
  pub is_needed : IsNeeded folder services need
  pub is_of : Member finding (problems_for tables need)

-- THE REPORT on the tables: in the order of their places, each once, exactly the problems of tables that checked stacks need
pub record IsTableReport (folder : Folder) (services : List (List ℕ)) (tables : TablesText) (found : BTreeMap TablePlace TableFinding) : Type 0 where
  pub ordered : IsOrdered compare_places found
  pub placed : All (λ entry. entry.0 ≡ place_of entry.1) found.entries
  pub rows : (finding : TableFinding) → (get compare_places found (place_of finding) ≡ Some finding) ↔ IsProblem folder services tables finding
