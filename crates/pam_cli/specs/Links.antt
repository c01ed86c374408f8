-- Which files of a source are links that lead out of the folder from which they were read.
use Rattle.std.specs.Prelude.{◌≡◌, ◌<◌, ℕ, Bool, true, false, List, [], Some, if◌then◌else◌, length, nat_lt, slice_get, slice_index_or}
use Rattle.std.specs.List.{list_any}
use Rattle.std.specs.Str.{bytes_eq}
use Rattle.clap.specs.Words.{Text}
use Rattle.pam_conf.specs.Files.{Named}
use Rattle.pam_words.specs.declared.wanted.ConfSource.{ConfSource}
use Rattle.pam_words.specs.declared.wanted.ConfSource.TheVariants.{Dir, Over}
use Rattle.pam_cli.specs.System.{Told}

-- a candidate has this name
abbrev pub is_candidate : Text → List (Text × Text) → Bool
is_candidate name candidates = list_any (λ c. bytes_eq name c.0) candidates

-- a file of a folder is such a link if the system says so. One of a candidate is none: whoever runs the command names it
abbrev pub IsOut : Told → Bool → Text → Text → Bool → Type 0
IsOut told true folder name out = out ≡ false
IsOut told false folder name out = told.leads_out folder name out

-- the folder from which the file at a position was read
abbrev pub folder_at : Text → Text → ℕ → ℕ → Text
folder_at folder vendor vendor_start position = if nat_lt position vendor_start then folder else vendor

-- of files of a folder, and from a position on of another one, the first ones: by the position of each whether it is such a link
pub record AreOut (told : Told) (candidates : List (Text × Text)) (folder vendor : Text) (vendor_start : ℕ) (files : List Named) (first : ℕ)
    (outside : List Bool) : Type 0 where
  pub count : length outside ≡ first
  pub each : (position : ℕ) (file : Named) → position < first → slice_get files position ≡ Some file →
      IsOut told (is_candidate file.0 candidates) (folder_at folder vendor vendor_start position) file.0 (slice_index_or outside position false)

-- THE LINKS of a source with these candidates. Below a root no link leads out of the root, and one file has no folder
abbrev pub AreLinks : Told → List (Text × Text) → ConfSource → List Named → ℕ → List Bool → Type 0
AreLinks told candidates (Dir folder) files vendor_start outside =
    AreOut told candidates folder.now folder.now vendor_start files (length files) outside
AreLinks told candidates (Over folder vendor) files vendor_start outside =
    AreOut told candidates folder.now vendor.now vendor_start files (length files) outside
AreLinks told candidates source files vendor_start outside = outside ≡ []
