-- The file of a document.
use Rattle.std.specs.Prelude.{ℕ, Bool, false, nat_eq, Option, Some, None, codes, drop, if◌then◌else◌, option_and_then}
use Rattle.std.specs.List.{starts_with}
use Rattle.std.specs.Option.{option_map, option_map_or}
use Rattle.std.specs.Path.{path_file_name, path_join, path_parent}
use Rattle.std.specs.Str.{bytes_eq}
use Rattle.std.specs.Str.Lossy.{utf8_lossy}
use Rattle.clap.specs.Words.{Text}
use Rattle.percent_encoding.specs.Percent.{percent_decode}
use Rattle.pam_lsp.specs.Documents.{DocumentText}

-- the escaped path of a URI of a file of this machine
abbrev pub after_scheme : Text → Option Text
after_scheme uri = if starts_with nat_eq uri (codes "file:///") then Some (drop 7 uri) else None

-- the path of the file with a URI
abbrev pub path_of : Text → Option Text
path_of uri = option_map (λ escaped. utf8_lossy (percent_decode escaped)) (after_scheme uri)

-- a folder has the files of PAM, by its name
abbrev pub is_of_pam : Text → Bool
is_of_pam folder = option_map_or (λ name. bytes_eq name (codes "pam.d")) (path_file_name folder) false

abbrev pub placed : Text → Text → Text → ℕ → Text → DocumentText
placed uri folder name version text = record {
  uri = uri;
  path = path_join folder name;
  folder = folder;
  name = name;
  version = version;
  text = text;
}

-- that of a file of such a folder
abbrev pub placed_in : Text → ℕ → Text → Option Text → Option Text → Option DocumentText
placed_in uri version text (Some folder) (Some name) = if is_of_pam folder then Some (placed uri folder name version text) else None
placed_in uri version text folder name = None

-- THE DOCUMENT with this URI, if it is that of a file in a folder pam.d
abbrev pub document_of : Text → ℕ → Text → Option DocumentText
document_of uri version text = option_and_then (λ path. placed_in uri version text (path_parent path) (path_file_name path)) (path_of uri)
