-- Files in memory: what a system that has these files and no link answers to the questions of a run.
use Rattle.std.specs.Prelude.{◌≡◌, ◌↔◌, Bool, true, false, List, [], ◌∷◌, Option, Some, None, drop, if◌then◌else◌, length, map, nat_eq}
use Rattle.std.specs.Cmp.Lexicographic.{slice_cmp}
use Rattle.std.specs.List.{Contains, list_any, starts_with}
use Rattle.std.specs.List.Sorted.{IsStrictlySortedBy}
use Rattle.std.specs.Option.{option_map}
use Rattle.std.specs.Ordering.{nat_cmp}
use Rattle.std.specs.Path.{path_join, slash}
use Rattle.std.specs.Str.{bytes_eq}
use Rattle.clap.specs.Words.{Text}
use Rattle.pam_text.specs.Cut.{cut_at, is_among}
use Rattle.pam_cli.specs.System.{HeldText, Told, front, shown}
use Rattle.pam_cli.specs.System as system
use Rattle.pam_cli.specs.declared.system.Found.{Found}
use Rattle.pam_cli.specs.declared.system.Found.TheVariants as found
use Rattle.pam_web.specs.declared.entries.File.{File}
use Rattle.pam_web.specs.declared.memory.Memory.{Memory}

-- the path of a file, and its bytes
abbrev pub file_view : File → Text × Text
file_view file = (file.path.now, file.bytes.now)

abbrev pub memory_view : Memory → List (Text × Text)
memory_view memory = map file_view memory.files.now

-- the bytes of the first file with this path
abbrev pub bytes_of : List (Text × Text) → Text → Option Text
bytes_of [] path = None
bytes_of (file ∷ files) path = if bytes_eq file.0 path then Some file.1 else bytes_of files path

-- ---- folders

abbrev pub begins : Text → Text → Bool
begins start path = starts_with nat_eq path start

-- the first part of a text that is cut, or all of it
abbrev pub front_or : Text → Option (Text × Text) → Text
front_or text (Some parts) = parts.0
front_or text None = text

-- the bytes before the first slash, or all of them
abbrev pub before_slash : Text → Text
before_slash text = front_or text (cut_at (is_among (slash ∷ [])) text)

-- what follows this text in each path that begins with it, up to the next slash
abbrev pub names_after : Text → List (Text × Text) → List Text
names_after start [] = []
names_after start (file ∷ files) =
    if begins start file.0 then before_slash (drop (length start) file.0) ∷ names_after start files else names_after start files

-- what the paths of the files below a folder begin with: its path, and a slash if it has none at its end
abbrev pub start_of : Text → Text
start_of folder = path_join folder []

-- a folder is there if a file is below it
abbrev pub is_folder : List (Text × Text) → Text → Bool
is_folder files folder = list_any (λ f. begins (start_of folder) f.0) files

-- the names by which the paths that begin with this text go on, each once, in ascending byte order. There is one at least
pub record AreNames (files : List (Text × Text)) (start : Text) (names : List Text) : Type 0 where
  pub there : list_any (λ f. begins start f.0) files ≡ true
  pub rising : IsStrictlySortedBy (slice_cmp nat_cmp) names
  pub those : (name : Text) → Contains names name ↔ Contains (names_after start files) name

-- THE NAMES of the entries of a folder: those by which the paths of the files below it go on
abbrev pub AreEntries : List (Text × Text) → Text → List Text → Type 0
AreEntries files folder names = AreNames files (start_of folder) names

-- ---- the answers

-- what is at a path with these bytes of a file, if there is one, and with files below it or none
abbrev pub found_by : Option Text → Bool → Found
found_by (Some bytes) below = found.File
found_by None true = found.Folder
found_by None false = found.Nothing

abbrev pub held_by : Option Text → Bool → HeldText
held_by (Some bytes) below = system.bytes (front bytes)
held_by None true = system.other
held_by None false = system.nothing

-- WHAT THESE FILES ANSWER to each question of a run
abbrev pub told_of : List (Text × Text) → Told
told_of files = record {
  file = λ path bytes. option_map front (bytes_of files path) ≡ Some bytes;
  entries = λ folder names. AreEntries files (shown folder) names;
  look = λ place there. there ≡ found_by (bytes_of files (shown place)) (is_folder files (shown place));
  held = λ place held. held ≡ held_by (bytes_of files (shown place)) (is_folder files (shown place));
  leads_out = λ folder name out. out ≡ false;
}
