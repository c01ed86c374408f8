-- The access tables that are read: those that are named, or else those of a system, as pam_access(8) reads them.
use Rattle.std.specs.Prelude.{◌≡◌, ◌⊎◌, ⊤, ◌&&◌, Bool, true, not, List, [], ◌∷◌, ◌++◌, codes, filter, map}
use Rattle.clap.specs.Words.{Text}
use Rattle.pam_conf.specs.Services.{begins, ends}
use Rattle.pam_report.specs.declared.inputs.AccessFiles.{AccessFiles}
use Rattle.pam_words.specs.declared.wanted.ConfSource.{ConfSource}
use Rattle.pam_words.specs.declared.wanted.ConfSource.TheVariants.{Root}
use Rattle.pam_cli.specs.Sources.{AreInOrder, IsNoFile}
use Rattle.pam_cli.specs.System.{PlaceText, Told, entry_at, shown}
use Rattle.pam_cli.specs.System as system
use Rattle.pam_cli.specs.declared.system.Found.{Found}
use Rattle.pam_cli.specs.declared.system.Found.TheVariants as there

-- the bytes of these files, in turn
abbrev pub AreContents : Told → List Text → List Text → Type 0
AreContents told [] [] = ⊤
AreContents told (name ∷ names) (bytes ∷ contents) = told.file name bytes × AreContents told names contents
AreContents told names contents = ⊥

-- no tables
abbrev pub AreNone : AccessFiles → Type 0
AreNone tables = (tables.paths ≡ []) × (tables.contents ≡ [])

-- those that are named, in the order in which they are given
abbrev pub AreNamed : Told → List Text → AccessFiles → Type 0
AreNamed told names tables = (tables.paths ≡ names) × AreContents told names tables.contents

-- ---- those of a system: each is a path that is shown, and the bytes that were read there

-- the name of a table in the folder of tables: glob(7) finds it as `*.conf`
abbrev pub is_table_name : Text → Bool
is_table_name name = ends name (codes ".conf") && not (begins name (codes "."))

-- the file at a place, if something is there
abbrev pub IsOwn : Told → PlaceText → List (Text × Text) → Type 0
IsOwn told place files =
    (told.held place system.nothing × (files ≡ []))
    ⊎ ((bytes : Text) × told.held place (system.bytes bytes) × (files ≡ (shown place, bytes) ∷ []))

-- the file at a place, if a regular file is there
abbrev pub IsFileAt : Told → PlaceText → List (Text × Text) → Type 0
IsFileAt told place files =
    (IsNoFile told place × (files ≡ [])) ⊎ ((bytes : Text) × told.held place (system.bytes bytes) × (files ≡ (shown place, bytes) ∷ []))

-- the regular files among these entries of a folder, in turn
abbrev pub AreFilesAt : Told → PlaceText → List Text → List (Text × Text) → Type 0
AreFilesAt told folder [] files = files ≡ []
AreFilesAt told folder (name ∷ names) files =
    (first later : List (Text × Text))
    × IsFileAt told (entry_at folder name) first × AreFilesAt told folder names later × (files ≡ first ++ later)

-- the tables of a folder, in the byte order of their names; where there is no folder, there are none
abbrev pub AreOfFolder : Told → PlaceText → Found → List (Text × Text) → Type 0
AreOfFolder told folder there.Folder files =
    (names : List Text) × told.entries folder names × AreInOrder names × AreFilesAt told folder (filter is_table_name names) files
AreOfFolder told folder found files = files ≡ []

-- access.conf, and then the tables of access.d
pub record AreOfSystem (told : Told) (root : Text) (tables : AccessFiles) : Type 0 where
  pub first : List (Text × Text)
  pub later : List (Text × Text)
  pub own : IsOwn told (system.below root (codes "etc/security/access.conf")) first
  pub found : Found
  pub looked : told.look (system.below root (codes "etc/security/access.d")) found
  pub beside : AreOfFolder told (system.below root (codes "etc/security/access.d")) found later
  pub paths : tables.paths ≡ map (λ f. f.0) (first ++ later)
  pub contents : tables.contents ≡ map (λ f. f.1) (first ++ later)

-- those of the source, if it is a system whose tables are read
abbrev pub AreOfSource : Told → Bool → ConfSource → AccessFiles → Type 0
AreOfSource told true (Root root) tables = AreOfSystem told root.now tables
AreOfSource told reads source tables = AreNone tables

-- THE ACCESS TABLES: those that are named, or else those of the source
abbrev pub AreAccess : Told → Bool → ConfSource → List Text → AccessFiles → Type 0
AreAccess told reads source [] tables = AreOfSource told reads source tables
AreAccess told reads source (name ∷ names) tables = AreNamed told (name ∷ names) tables
