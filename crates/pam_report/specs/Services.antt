-- The services that a request names, and whether its configuration has them: pam.conf(5), on /etc/pam.d/ and /etc/pam.conf.
use Rattle.std.specs.Prelude.{◌≡◌, ℕ, ◌==◌, ◌&&◌, ◌||◌, Bool, true, false, not, List, length, map, Option, Some, None, Err, is_some}
use Rattle.std.specs.Char.{to_ascii_lowercase}
use Rattle.std.specs.List.{list_all, list_any}
use Rattle.std.specs.Option.{option_map_or}
use Rattle.std.specs.Str.{bytes_eq}
use Rattle.pam_conf.specs.FileRules.{own_faults}
use Rattle.pam_conf.specs.Files.{Folder, Named, bytes_at, position_of}
use Rattle.pam_conf.specs.declared.rule.Form.{Form}
use Rattle.pam_conf.specs.declared.rule.Form.TheVariants.{Dir, Single}
use Rattle.pam_conf.specs.Services.{services_in}
use Rattle.pam_report.specs.Inputs.{new_given, no_files, old_given}
use Rattle.pam_report.specs.Reply.{Answer}
use Rattle.pam_report.specs.declared.fault.Fault.TheVariants as faults
use Rattle.pam_report.specs.declared.inputs.Inputs.{Inputs}
use Rattle.pam_report.specs.declared.inputs.SideInputs.{SideInputs}

-- a file of a folder has a name, or a rule of pam.conf has it as its service
abbrev pub has_name : Form → List Named → List ℕ → Bool
has_name Dir files name = is_some (position_of name files)
has_name Single files name = list_any (bytes_eq name) (services_in Single files)

-- a line of pam.conf has a fault, and may be a rule of any service
abbrev pub may_hide : Form → List Named → Bool
may_hide Dir files = false
may_hide Single files = option_map_or (λ bytes. not (length (own_faults Single bytes) == 0)) (bytes_at 0 files) false

-- A CONFIGURATION HAS A SERVICE: there is a file with its name, or in pam.conf a rule of it, or a fault that may hide one. Services are
-- looked up in lowercase
abbrev pub has_service : Folder → List ℕ → Bool
has_service folder name = may_hide folder.form folder.entries || has_name folder.form folder.entries (map to_ascii_lowercase name)

-- it has each of these
abbrev pub has_services : Folder → List (List ℕ) → Bool
has_services folder names = list_all (has_service folder) names

-- a configuration is there: a folder, or the one file
abbrev pub is_present : Form → List Named → Bool
is_present Dir files = true
is_present Single files = not (length files == 0)

abbrev pub is_there : Folder → Bool
is_there folder = is_present folder.form folder.entries

-- WHAT A CHECK IS ASKED FOR is there: the configuration, and each service that is named
abbrev pub has_asked : Folder → List (List ℕ) → Bool
has_asked folder names = is_there folder && has_services folder names

-- a side of a comparison has a service
abbrev pub side_has : Option SideInputs → List ℕ → Bool
side_has None name = has_service no_files name
side_has (Some side) name = has_service side.files name

-- one of the sides has the service that is named, if one is
abbrev pub sides_have : Inputs → Option (List ℕ) → Bool
sides_have inputs None = true
sides_have inputs (Some name) = side_has (old_given inputs) name || side_has (new_given inputs) name

-- U18: A NAME THAT IS NO SERVICE has no answer, though `other` would answer for it, and a check has none where no configuration is there.
-- The first is whether all that is asked for is there
abbrev pub IfServices : Bool → (Answer → Type 0) → (Answer → Type 0)
IfServices true IsAnswer = IsAnswer
IfServices false IsAnswer = λ answer. answer ≡ Err faults.NoSuchService
