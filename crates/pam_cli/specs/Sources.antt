-- What is read of a source: its files, and the paths under which they were read.
use Rattle.std.specs.Prelude.{◌≡◌, ◌⊎◌, ⊤, ℕ, Bool, true, false, not, List, [], ◌∷◌, ◌++◌, Option, Some, None, codes, length, map, string_bytes}
use Rattle.std.specs.Cmp.Lexicographic.{slice_cmp}
use Rattle.std.specs.List.{AllByRecursion, filter, list_any}
use Rattle.std.specs.List.Sorted.{IsStrictlySortedBy}
use Rattle.std.specs.Ordering.{is_lt, nat_cmp}
use Rattle.std.specs.Str.{bytes_eq}
use Rattle.clap.specs.Words.{Text}
use Rattle.pam_conf.specs.Files.{Folder, Named}
use Rattle.pam_conf.specs.declared.rule.Form.TheVariants as forms
use Rattle.pam_text.specs.Members.{Member}
use Rattle.pam_report.specs.declared.inputs.InputError.{InputError}
use Rattle.pam_report.specs.declared.inputs.InputError.TheVariants.{Read, Memory}
use Rattle.pam_words.specs.declared.wanted.ConfSource.{ConfSource}
use Rattle.pam_words.specs.declared.wanted.ConfSource.TheVariants.{Dir, Over, Conf, Root}
use Rattle.pam_cli.specs.System.{PlaceText, Told, entry_at, is_there, shown}
use Rattle.pam_cli.specs.System as system
use Rattle.pam_cli.specs.declared.system.Found.{Found}
use Rattle.pam_cli.specs.declared.system.Found.TheVariants as there

-- a file of this name is among these
abbrev pub is_given : Text → List Named → Bool
is_given name files = list_any (λ f. bytes_eq name f.0) files

-- no name comes before an earlier one, in byte order
abbrev pub AreInOrder : List Text → Type 0
AreInOrder [] = ⊤
AreInOrder (name ∷ names) = AllByRecursion (λ later. is_lt (slice_cmp nat_cmp later name) ≡ false) names × AreInOrder names

-- the first candidate of each name
abbrev pub firsts_of : List (Text × Text) → List (Text × Text)
firsts_of [] = []
firsts_of (c ∷ cs) = c ∷ filter (λ other. not (bytes_eq other.0 c.0)) (firsts_of cs)

-- ---- the files of a source, and the paths: that of the whole configuration, and then that of each file

-- each candidate, with the bytes of its FILE
abbrev pub AreFilesOf : Told → List (Text × Text) → List Named → Type 0
AreFilesOf told [] [] = ⊤
AreFilesOf told (c ∷ cs) (f ∷ fs) = (f.0 ≡ c.0) × told.file c.1 f.1 × AreFilesOf told cs fs
AreFilesOf told cs fs = ⊥

-- the files of the candidates, the first of each name
pub record IsOfCandidates (told : Told) (candidates : List (Text × Text)) (folder : Text) (found : Folder) (places : List Text) : Type 0 where
  pub form : found.form ≡ forms.Dir
  pub files : AreFilesOf told (firsts_of candidates) found.entries
  pub paths : places ≡ folder ∷ map (λ c. c.1) (firsts_of candidates)

-- nothing is at the place, or it is no regular file
abbrev pub IsNoFile : Told → PlaceText → Type 0
IsNoFile told place = told.held place system.nothing ⊎ told.held place system.other

-- a file is that of one of these names in a folder, with all its bytes
abbrev pub IsEntry : Told → PlaceText → List Text → Named → Type 0
IsEntry told folder names file = Member file.0 names × told.held (entry_at folder file.0) (system.bytes file.1)

-- whether the folder above, if there is one, has an entry of this name, whatever it is, which hides a file of this one
abbrev pub IsHidden : Told → Option PlaceText → Text → Bool → Type 0
IsHidden told None name hidden = hidden ≡ false
IsHidden told (Some above) name hidden = (found : Found) × told.look (entry_at above name) found × (hidden ≡ is_there found)

-- a file of this name is among these, or the entry of the folder is no regular file or is hidden
abbrev pub IsKept : Told → Option PlaceText → PlaceText → List Named → Text → Type 0
IsKept told above folder files name =
    (is_given name files ≡ true) ⊎ IsNoFile told (entry_at folder name) ⊎ IsHidden told above name true

-- a file is that of one of these names in a folder, and is not hidden
abbrev pub IsShown : Told → Option PlaceText → PlaceText → List Text → Named → Type 0
IsShown told above folder names file = IsEntry told folder names file × IsHidden told above file.0 false

-- files, and then those with these names of a folder that are regular files, and that they lack and the folder above does not hide, in
-- rising byte order of their names
pub record AddsNamed (told : Told) (above : Option PlaceText) (folder : PlaceText) (names : List Text) (first : Folder) (first_places : List Text)
    (found : Folder) (places : List Text) : Type 0 where
  pub more : List Named
  pub form : found.form ≡ first.form
  pub entries : found.entries ≡ first.entries ++ more
  pub paths : places ≡ first_places ++ map (λ f. shown (entry_at folder f.0)) more
  pub lacked : list_any (λ f. is_given f.0 first.entries) more ≡ false
  pub rising : IsStrictlySortedBy (slice_cmp nat_cmp) (map (λ f. f.0) more)
  -- those that are read, and each that is not
  pub read : AllByRecursion (IsShown told above folder names) more
  pub left : AllByRecursion (IsKept told above folder found.entries) names

-- files, and then those of a folder: of all its entries, as the system names them
pub record IsThen (told : Told) (above : Option PlaceText) (folder : PlaceText) (first : Folder) (first_places : List Text) (found : Folder)
    (places : List Text)
    : Type 0 where
  pub names : List Text
  pub listed : told.entries folder names
  pub added : AddsNamed told above folder names first first_places found places

-- the files of the candidates, and then those of a folder whose names no candidate has
abbrev pub IsOfFolder : Told → List (Text × Text) → PlaceText → Folder → List Text → Type 0
IsOfFolder told candidates folder found places =
    (given : Folder) × (given_places : List Text)
    × IsOfCandidates told candidates (shown folder) given given_places × IsThen told None folder given given_places found places

-- the same, and then, from the last number on, the files of another folder whose names none of these and no entry of the first folder has
abbrev pub IsOver : Told → List (Text × Text) → PlaceText → PlaceText → Folder → List Text → ℕ → Type 0
IsOver told candidates folder vendor found places vendor_start =
    (first : Folder) × (first_places : List Text)
    × IsOfFolder told candidates folder first first_places × IsThen told (Some folder) vendor first first_places found places
    × (vendor_start ≡ length first.entries)

-- without another folder the number is that of all files
abbrev pub IsAlone : Folder → ℕ → Type 0
IsAlone found vendor_start = vendor_start ≡ length found.entries

-- one file in place of `pam.conf`
abbrev pub IsOneFile : Text → Text → Folder → List Text → Type 0
IsOneFile path bytes files paths =
    (files ≡ record { form = forms.Single; entries = (codes "pam.conf", bytes) ∷ [] }) × (paths ≡ path ∷ path ∷ [])

-- that of a name
abbrev pub IsNamedFile : Told → Text → Folder → List Text → Type 0
IsNamedFile told path files paths = (bytes : Text) × told.file path bytes × IsOneFile path bytes files paths

-- that of a system, if it is there
abbrev pub IsRootFile : Told → PlaceText → Folder → List Text → Type 0
IsRootFile told place files paths =
    (told.held place system.nothing × (files ≡ record { form = forms.Single; entries = [] }) × (paths ≡ shown place ∷ []))
    ⊎ ((bytes : Text) × told.held place (system.bytes bytes) × IsOneFile (shown place) bytes files paths)

-- its one file, in whose place no candidate can stand
abbrev pub IsSingle : Told → List (Text × Text) → Text → Folder → List Text → Type 0
IsSingle told candidates root files paths = (candidates ≡ []) × IsRootFile told (system.below root (codes "etc/pam.conf")) files paths

-- the files of a system, by what is at etc/pam.d and at usr/lib/pam.d: those of its folders, or of the one that is there, else its one file
abbrev pub IsOfSystem : Told → List (Text × Text) → Text → Found → Found → Folder → List Text → ℕ → Type 0
IsOfSystem told candidates root there.Folder there.Nothing files paths vendor_start =
    IsOfFolder told candidates (system.below root (codes "etc/pam.d")) files paths × IsAlone files vendor_start
IsOfSystem told candidates root there.Folder second files paths vendor_start =
    IsOver told candidates (system.below root (codes "etc/pam.d")) (system.below root (codes "usr/lib/pam.d")) files paths vendor_start
IsOfSystem told candidates root first there.Folder files paths vendor_start =
    IsOfFolder told candidates (system.below root (codes "usr/lib/pam.d")) files paths × IsAlone files vendor_start
IsOfSystem told candidates root first second files paths vendor_start = IsSingle told candidates root files paths × IsAlone files vendor_start

abbrev pub IsOfRoot : Told → List (Text × Text) → Text → Folder → List Text → ℕ → Type 0
IsOfRoot told candidates root files paths vendor_start =
    (first second : Found)
    × told.look (system.below root (codes "etc/pam.d")) first × told.look (system.below root (codes "usr/lib/pam.d")) second
    × IsOfSystem told candidates root first second files paths vendor_start

-- THE FILES of a source with these candidates, their paths, and from which file on they are those that only the second folder has
abbrev pub IsRead : Told → List (Text × Text) → ConfSource → Folder → List Text → ℕ → Type 0
IsRead told candidates (Dir folder) files paths vendor_start =
    IsOfFolder told candidates (system.named folder.now) files paths × IsAlone files vendor_start
IsRead told candidates (Over folder vendor) files paths vendor_start =
    IsOver told candidates (system.named folder.now) (system.named vendor.now) files paths vendor_start
IsRead told candidates (Conf name) files paths vendor_start = IsNamedFile told name.now files paths × IsAlone files vendor_start
IsRead told candidates (Root root) files paths vendor_start = IsOfRoot told candidates root.now files paths vendor_start

-- the files of a source, whatever their paths
abbrev pub IsFrom : Told → List (Text × Text) → ConfSource → Folder → Type 0
IsFrom told candidates source files = (paths : List Text) × (vendor_start : ℕ) × IsRead told candidates source files paths vendor_start

-- ---- what cannot be read

-- the one file; or a folder or one of its entries, which may have any name
abbrev pub IsInSource : ConfSource → Text → Type 0
IsInSource (Conf file) name = name ≡ file.now
IsInSource source name = ⊤

-- an allocation failed, or a file with such a name cannot be read
abbrev pub IsUnread : (Text → Type 0) → InputError → Type 0
IsUnread IsName Memory = ⊤
IsUnread IsName (Read name why) = IsName (string_bytes name)
