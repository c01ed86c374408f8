-- For private contracts and proofs alone: what is read of a source.
use Rattle.std.specs.Prelude.{◌≡◌, ◌⊎◌, true, false, ℕ, List, [], ◌∷◌, ◌++◌, Option, map}
use Rattle.clap.specs.Words.{Text}
use Rattle.pam_conf.specs.declared.rule.Form.{Form}
use Rattle.pam_cli.specs.declared.reading.sources.SourceFiles.{SourceFiles}
use Rattle.pam_cli.specs.Sources.{AddsNamed, AreInOrder, IsHidden, IsKept, is_given}
use Rattle.pam_cli.specs.System.{PlaceText, Told, entry_at, shown}
use Rattle.pam_cli.specs.System as system

-- no files, and the path of the whole configuration
pub record IsStart (form : Form) (path : Text) (found : SourceFiles) : Type 0 where
  pub files : found.files ≡ record { form = form; entries = [] }
  pub paths : found.paths ≡ path ∷ []

-- a file is added, with its path
pub record AddsFile (name bytes path : Text) (old new : SourceFiles) : Type 0 where
  pub files : new.files ≡ record old.files { entries = old.files.entries ++ (name, bytes) ∷ [] }
  pub paths : new.paths ≡ old.paths ++ path ∷ []

-- the file of a candidate is added, unless one of its name is there
abbrev pub AddsCandidate : Told → Text × Text → SourceFiles → SourceFiles → Type 0
AddsCandidate told candidate old new =
    ((is_given candidate.0 old.files.entries ≡ true) × (new ≡ old))
    ⊎ ((is_given candidate.0 old.files.entries ≡ false)
    × ((bytes : List ℕ) × told.file candidate.1 bytes × AddsFile candidate.0 bytes candidate.1 old new))

-- nothing is added for an entry of a folder: a file of its name is there, or it is no regular file or is hidden
abbrev pub LeavesEntry : Told → Option PlaceText → PlaceText → Text → SourceFiles → SourceFiles → Type 0
LeavesEntry told above folder name old new = (new ≡ old) × IsKept told above folder old.files.entries name

-- the file of this name is added
abbrev pub ReadsEntry : Told → Option PlaceText → PlaceText → Text → SourceFiles → SourceFiles → Type 0
ReadsEntry told above folder name old new =
    (is_given name old.files.entries ≡ false) × IsHidden told above name false
    × ((bytes : List ℕ) × told.held (entry_at folder name) (system.bytes bytes) × AddsFile name bytes (shown (entry_at folder name)) old new)

abbrev pub AddsEntry : Told → Option PlaceText → PlaceText → Text → SourceFiles → SourceFiles → Type 0
AddsEntry told above folder name old new = LeavesEntry told above folder name old new ⊎ ReadsEntry told above folder name old new

-- the files of the first names of a folder are added, and the names that are left come in order after theirs
pub record AddsBefore (told : Told) (above : Option PlaceText) (folder : PlaceText) (left : List Text) (old new : SourceFiles) : Type 0 where
  pub names : List Text
  pub listed : told.entries folder names
  pub done : List Text
  pub all : names ≡ done ++ left
  pub added : AddsNamed told above folder done old.files old.paths new.files new.paths
  pub order : AreInOrder (map (λ f. f.0) added.more ++ left)
