-- What is wrong with a folder itself, where no service is named.
use Rattle.std.specs.Prelude.{ℕ, ◌==◌, ◌&&◌, Bool, true, false, not, List, [], ◌∷◌, codes, is_none, map, slice_get, Option, Some, None}
use Rattle.std.specs.List.{list_any}
use Rattle.std.specs.Option.{option_map_or}
use Rattle.std.specs.Str.{bytes_eq}
use Rattle.pam_conf.specs.Files.{Folder}
use Rattle.pam_conf.specs.Targets.{is_target}
use Rattle.pam_conf.specs.declared.rule.Form.{Form}
use Rattle.pam_conf.specs.declared.rule.Form.TheVariants.{Dir, Single}
use Rattle.pam_conf.specs.Services.{has_capital, is_left_over}
use Rattle.pam_findings.specs.declared.host.problem.Problem.{Problem}
use Rattle.pam_findings.specs.declared.host.problem.Problem.TheVariants as problems
use Rattle.pam_findings.specs.declared.host.problem.Spot.{Spot}

-- the names of the files of a folder
abbrev pub names_in : Folder → List (List ℕ)
names_in folder = map (λ f. f.0) folder.entries

-- the name of the file at a position passes a test
abbrev pub has_name_where : (List ℕ → Bool) → Folder → Option ℕ → Bool
has_name_where test folder None = false
has_name_where test folder (Some file) = option_map_or test (slice_get (names_in folder) file) false

abbrev pub is_folder : Form → Bool
is_folder Dir = true
is_folder Single = false

abbrev pub is_unreachable : List ℕ → Bool
is_unreachable name = has_capital name && not (is_left_over name)

-- nor does a rule name the file as a target
abbrev pub is_unread : Folder → List ℕ → Bool
is_unread folder name = is_unreachable name && not (is_target folder name)

abbrev pub has_file : List ℕ → List (List ℕ) → Bool
has_file name names = list_any (bytes_eq name) names

-- S6, S7 and S11
abbrev pub folder_has : Folder → Option ℕ → Problem → Bool
folder_has folder file problems.NoOther = is_none file && not (has_file (codes "other") (names_in folder))
folder_has folder file problems.UnreachableName = has_name_where (is_unread folder) folder file
folder_has folder file problems.LeftOver = has_name_where is_left_over folder file
folder_has folder file problem = false

abbrev pub none_is_named : List (List ℕ) → Bool
none_is_named [] = true
none_is_named (name ∷ names) = false

-- the folder itself has a problem
abbrev pub is_of_folder : Folder → List (List ℕ) → Spot → Bool
is_of_folder folder named spot = is_folder folder.form && none_is_named named && (spot.line == 0) && folder_has folder spot.file spot.problem
