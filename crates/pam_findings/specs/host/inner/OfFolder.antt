-- For private contracts and proofs alone: what is wrong with a folder itself.
use Rattle.std.specs.Prelude.{◌≡◌, ℕ, ◌<◌, false, List, codes, if◌then◌else◌, slice_get, Option, Some, None}
use Rattle.pam_conf.specs.Files.{Folder}
use Rattle.pam_findings.specs.host.FolderProblems.{has_file, is_unread, names_in}
use Rattle.pam_conf.specs.Services.{is_left_over}
use Rattle.pam_findings.specs.declared.host.problem.Problem.{Problem}
use Rattle.pam_findings.specs.declared.host.problem.Problem.TheVariants as problems
use Rattle.pam_findings.specs.declared.host.problem.Spot.{Spot}

-- what is wrong with a name
abbrev pub problem_of_name : Folder → List ℕ → Option Problem
problem_of_name folder name =
    if is_left_over name then Some problems.LeftOver else if is_unread folder name then Some problems.UnreachableName else None

-- a problem of the name of this file
pub record HasNameProblem (folder : Folder) (name : List ℕ) (position : ℕ) (spot : Spot) : Type 0 where
  pub file : spot.file ≡ Some position
  pub line : spot.line ≡ 0
  pub problem : problem_of_name folder name ≡ Some spot.problem

-- a problem of the name of one of the first files
pub record IsNameProblem (folder : Folder) (files : ℕ) (spot : Spot) : Type 0 where
  pub position : ℕ
  pub within : position < files
  pub name : List ℕ
  pub is_name : slice_get (names_in folder) position ≡ Some name
  pub has : HasNameProblem folder name position spot

-- S6, in a folder
pub record LacksOther (folder : Folder) (spot : Spot) : Type 0 where
  pub file : spot.file ≡ None
  pub line : spot.line ≡ 0
  pub problem : spot.problem ≡ problems.NoOther
  pub none : has_file (codes "other") (names_in folder) ≡ false
