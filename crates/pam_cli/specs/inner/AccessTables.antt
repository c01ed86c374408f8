-- For private contracts and proofs alone: access tables that are added.
use Rattle.std.specs.Prelude.{◌≡◌, List, [], ◌++◌, filter, map, ◌∷◌}
use Rattle.clap.specs.Words.{Text}
use Rattle.pam_report.specs.declared.inputs.AccessFiles.{AccessFiles}
use Rattle.pam_cli.specs.AccessTables.{AreFilesAt, AreOfFolder, IsFileAt, IsOwn, is_table_name}
use Rattle.pam_cli.specs.System.{PlaceText, Told}
use Rattle.pam_cli.specs.declared.system.Found.{Found}

-- tables, each a path and its bytes
pub record AddsTables (files : List (Text × Text)) (old new : AccessFiles) : Type 0 where
  pub paths : new.paths ≡ old.paths ++ map (λ f. f.0) files
  pub contents : new.contents ≡ old.contents ++ map (λ f. f.1) files

-- the file at a place, if something is there
abbrev pub AddsOwn : Told → PlaceText → AccessFiles → AccessFiles → Type 0
AddsOwn told place old new = (files : List (Text × Text)) × IsOwn told place files × AddsTables files old new

-- the file at a place, if a regular file is there
abbrev pub AddsFile : Told → PlaceText → AccessFiles → AccessFiles → Type 0
AddsFile told place old new = (files : List (Text × Text)) × IsFileAt told place files × AddsTables files old new

-- the tables among these entries of a folder
abbrev pub AddsEntries : Told → PlaceText → List Text → AccessFiles → AccessFiles → Type 0
AddsEntries told folder names old new =
    (files : List (Text × Text)) × AreFilesAt told folder (filter is_table_name names) files × AddsTables files old new

-- an entry of a folder, if it is one
abbrev pub AddsEntry : Told → PlaceText → Text → AccessFiles → AccessFiles → Type 0
AddsEntry told folder name old new = AddsEntries told folder (name ∷ []) old new

-- the tables of a folder
abbrev pub AddsFolder : Told → PlaceText → AccessFiles → AccessFiles → Type 0
AddsFolder told folder old new =
    (found : Found) × (files : List (Text × Text)) × told.look folder found × AreOfFolder told folder found files × AddsTables files old new
