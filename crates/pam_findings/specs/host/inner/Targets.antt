-- For private contracts and proofs alone: the names of the files that rules include.
use Rattle.std.specs.Prelude.{◌≡◌, ℕ, ◌||◌, Bool, false, List}
use Rattle.std.specs.List.{list_any}
use Rattle.std.specs.Option.{option_map, option_map_or}
use Rattle.std.specs.Str.{bytes_eq}
use Rattle.pam_conf.specs.FileRules.{good_rules}
use Rattle.pam_conf.specs.Files.{Folder, bytes_at}
use Rattle.pam_conf.specs.Targets.{is_target, names_target}

-- a rule of the file at a position includes the file of this name
abbrev pub names_in_file : Folder → ℕ → List ℕ → Bool
names_in_file folder position name =
    option_map_or (list_any (names_target name)) (option_map (good_rules folder.form) (bytes_at position folder.entries)) false

-- these names and no others have been added
abbrev pub AddsNames : (List ℕ → Bool) → List (List ℕ) → List (List ℕ) → Type 0
AddsNames test old new = (name : List ℕ) → list_any (bytes_eq name) new ≡ (list_any (bytes_eq name) old || test name)

-- these are the names that rules include
abbrev pub AreTargets : Folder → List (List ℕ) → Type 0
AreTargets folder names = (name : List ℕ) → list_any (bytes_eq name) names ≡ is_target folder name
