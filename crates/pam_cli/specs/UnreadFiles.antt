-- Which files of a source cannot be read, though the others are.
use Rattle.std.specs.Prelude.{◌≡◌, ◌⊎◌, ◌<◌, ⊤, ℕ, Bool, true, false, List, [], Option, Some, codes, if◌then◌else◌, length, nat_lt, slice_get, slice_index_or}
use Rattle.clap.specs.Words.{Text}
use Rattle.pam_conf.specs.Files.{Folder, Named, bytes_at}
use Rattle.pam_conf.specs.declared.rule.Form.{Form}
use Rattle.pam_conf.specs.declared.rule.Form.TheVariants as forms
use Rattle.pam_words.specs.declared.wanted.ConfSource.{ConfSource}
use Rattle.pam_words.specs.declared.wanted.ConfSource.TheVariants.{Dir, Over, Conf, Root}
use Rattle.pam_cli.specs.Links.{is_candidate}
use Rattle.pam_cli.specs.System.{PlaceText, Told, entry_at}
use Rattle.pam_cli.specs.System as system
use Rattle.pam_cli.specs.declared.system.Found.{Found}
use Rattle.pam_cli.specs.declared.system.Found.TheVariants as there

-- A SYSTEM THAT GOES ON: it may also say of any place that an empty file is there
abbrev pub going_on : Told → Told
going_on told = record told { held = λ place held. told.held place held ⊎ (held ≡ system.bytes []) }

-- of a file of a folder that has no byte the system itself says so, unless it cannot be read, or is that of a candidate
abbrev pub IsReadAt : Told → PlaceText → Named → Bool → Bool → Type 0
IsReadAt told folder file candidate true = file.1 ≡ []
IsReadAt told folder file true false = ⊤
IsReadAt told folder file false false = file.1 ≡ [] → told.held (entry_at folder file.0) (system.bytes [])

-- the folder from which the file at a position was read
abbrev pub home_at : PlaceText → PlaceText → ℕ → ℕ → PlaceText
home_at folder vendor vendor_start position = if nat_lt position vendor_start then folder else vendor

-- of files of a folder, and from a position on of another one, the first ones: by the position of each whether it cannot be read
pub record AreUnread (told : Told) (candidates : List (Text × Text)) (folder vendor : PlaceText) (vendor_start : ℕ) (files : List Named) (first : ℕ)
    (unread : List Bool) : Type 0 where
  pub count : length unread ≡ first
  pub each : (position : ℕ) (file : Named) → position < first → slice_get files position ≡ Some file →
      IsReadAt told (home_at folder vendor vendor_start position) file (is_candidate file.0 candidates) (slice_index_or unread position false)

-- the first folder of a system, by what is at etc/pam.d
abbrev pub first_home : Text → Found → PlaceText
first_home root there.Folder = system.below root (codes "etc/pam.d")
first_home root found = system.below root (codes "usr/lib/pam.d")

-- the one file of a system has to be read: where it has no byte the system itself says so
abbrev pub IsOneRead : Told → Text → Option Text → Type 0
IsOneRead told root (Some []) = told.held (system.below root (codes "etc/pam.conf")) (system.bytes [])
IsOneRead told root bytes = ⊤

abbrev pub AreOfRoot : Told → List (Text × Text) → Text → Form → List Named → ℕ → List Bool → Type 0
AreOfRoot told candidates root forms.Single files vendor_start unread = IsOneRead told root (bytes_at 0 files) × (unread ≡ [])
AreOfRoot told candidates root forms.Dir files vendor_start unread =
    (found : Found) × told.look (system.below root (codes "etc/pam.d")) found
    × AreUnread told candidates (first_home root found) (system.below root (codes "usr/lib/pam.d")) vendor_start files (length files) unread

-- THE FILES that cannot be read, of a source with these candidates. One file that is named has to be read
abbrev pub AreUnreadIn : Told → List (Text × Text) → ConfSource → Folder → ℕ → List Bool → Type 0
AreUnreadIn told candidates (Dir folder) files vendor_start unread =
    AreUnread told candidates (system.named folder.now) (system.named folder.now) vendor_start files.entries (length files.entries) unread
AreUnreadIn told candidates (Over folder vendor) files vendor_start unread =
    AreUnread told candidates (system.named folder.now) (system.named vendor.now) vendor_start files.entries (length files.entries) unread
AreUnreadIn told candidates (Conf file) files vendor_start unread = unread ≡ []
AreUnreadIn told candidates (Root root) files vendor_start unread = AreOfRoot told candidates root.now files.form files.entries vendor_start unread
