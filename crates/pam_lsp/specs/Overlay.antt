-- A system with the open documents of an editor in the place of files.
use Rattle.std.specs.Prelude.{◌≡◌, Bool, false, ◌&&◌, List, [], ◌∷◌, ◌++◌, MatchBool, MatchOption, if◌then◌else◌}
use Rattle.std.specs.List.{list_any}
use Rattle.std.specs.List.Sorted.{IsPermutation}
use Rattle.std.specs.Str.{bytes_eq}
use Rattle.clap.specs.Words.{Text}
use Rattle.pam_cli.specs.System.{Told, front, shown}
use Rattle.pam_cli.specs.System as system
use Rattle.pam_cli.specs.declared.system.Found.TheVariants as found
use Rattle.pam_lsp.specs.Documents.{DocumentText, text_at}

-- a document is that of the file with this name in a folder
abbrev pub is_named : Text → Text → DocumentText → Bool
is_named folder name d = bytes_eq d.folder folder && bytes_eq d.name name

abbrev pub has_named : Text → Text → List DocumentText → Bool
has_named folder name documents = list_any (is_named folder name) documents

-- the names of the documents of a folder
abbrev pub names_in : Text → List DocumentText → List Text
names_in folder [] = []
names_in folder (d ∷ ds) = if bytes_eq d.folder folder then d.name ∷ names_in folder ds else names_in folder ds

-- the names that are not among others
abbrev pub lacked : List Text → List Text → List Text
lacked there [] = []
lacked there (name ∷ names) = if list_any (λ other. bytes_eq other name) there then lacked there names else name ∷ lacked there names

-- the names that are there, and those of the documents that are not among them
abbrev pub IsListed : List Text → List Text → List Text → Type 0
IsListed there names all = IsPermutation (there ++ lacked there names) all

-- WHAT A SYSTEM ANSWERS where the text of each open document stands in the place of the file with its path
abbrev pub over : Told → List DocumentText → Told
over told documents = record {
  file = λ path bytes. MatchOption (text_at path documents) (told.file path bytes) (λ text. bytes ≡ front text);
  entries = λ folder names. (there : List Text) × told.entries folder there × IsListed there (names_in (shown folder) documents) names;
  look = λ place there. MatchOption (text_at (shown place) documents) (told.look place there) (λ text. there ≡ found.File);
  held = λ place held. MatchOption (text_at (shown place) documents) (told.held place held) (λ text. held ≡ system.bytes (front text));
  leads_out = λ folder name out. MatchBool (has_named folder name documents) (out ≡ false) (told.leads_out folder name out);
}
