-- Which entries of the folders of a source are links that lead nowhere.
use Rattle.std.specs.Prelude.{◌≡◌, ◌⊎◌, Bool, true, false, not, List, [], ◌∷◌, codes, if◌then◌else◌}
use Rattle.clap.specs.Words.{Text}
use Rattle.pam_conf.specs.Files.{Named}
use Rattle.pam_conf.specs.Services.{with_name}
use Rattle.pam_words.specs.declared.wanted.ConfSource.{ConfSource}
use Rattle.pam_words.specs.declared.wanted.ConfSource.TheVariants.{Dir, Over, Conf, Root}
use Rattle.pam_cli.specs.Sources.{is_given}
use Rattle.pam_cli.specs.System.{PlaceText, Told, entry_at, is_there}
use Rattle.pam_cli.specs.System as system
use Rattle.pam_cli.specs.declared.system.Found.{Found}
use Rattle.pam_cli.specs.declared.system.Found.TheVariants as there

-- an entry leads nowhere if nothing is there, once links are followed. Of a name that is that of a file this is not asked
abbrev pub IsDead : Told → PlaceText → List Named → Text → Bool → Type 0
IsDead told folder files name dead =
    ((is_given name files ≡ true) × (dead ≡ false))
    ⊎ ((is_given name files ≡ false) × (found : Found) × told.look (entry_at folder name) found × (dead ≡ not (is_there found)))

-- names, and then those of these entries that lead nowhere, each once
abbrev pub AreAdded : Told → PlaceText → List Named → List Text → List Text → List Text → Type 0
AreAdded told folder files [] old new = new ≡ old
AreAdded told folder files (name ∷ names) old new =
    (dead : Bool) × IsDead told folder files name dead × AreAdded told folder files names (if dead then with_name old name else old) new

-- of all entries of a folder, as the system names them
abbrev pub AddsDead : Told → PlaceText → List Named → List Text → List Text → Type 0
AddsDead told folder files old new = (names : List Text) × told.entries folder names × AreAdded told folder files names old new

-- the same of a folder that need not be there
abbrev pub AddsIfFolder : Told → PlaceText → List Named → List Text → List Text → Found → Type 0
AddsIfFolder told folder files old new there.Folder = AddsDead told folder files old new
AddsIfFolder told folder files old new found = new ≡ old

abbrev pub AddsFound : Told → PlaceText → List Named → List Text → List Text → Type 0
AddsFound told folder files old new = (found : Found) × told.look folder found × AddsIfFolder told folder files old new found

-- those of two folders, each name once
abbrev pub AddsBoth : Told → PlaceText → PlaceText → List Named → List Text → Type 0
AddsBoth told folder vendor files dead = (first : List Text) × AddsDead told folder files [] first × AddsDead told vendor files first dead

abbrev pub AddsBothFound : Told → PlaceText → PlaceText → List Named → List Text → Type 0
AddsBothFound told folder vendor files dead = (first : List Text) × AddsFound told folder files [] first × AddsFound told vendor files first dead

-- THE NAMES of the entries of a source that lead nowhere, beside those of its files. One file has no folder
abbrev pub AreDead : Told → ConfSource → List Named → List Text → Type 0
AreDead told (Dir folder) files dead = AddsDead told (system.named folder.now) files [] dead
AreDead told (Over folder vendor) files dead = AddsBoth told (system.named folder.now) (system.named vendor.now) files dead
AreDead told (Conf file) files dead = dead ≡ []
AreDead told (Root root) files dead =
    AddsBothFound told (system.below root.now (codes "etc/pam.d")) (system.below root.now (codes "usr/lib/pam.d")) files dead
