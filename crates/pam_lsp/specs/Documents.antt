-- The documents that an editor has open.
use Rattle.std.specs.Prelude.{ℕ, Bool, not, ◌&&◌, nat_lt, List, [], ◌∷◌, ◌++◌, Option, Some, None, if◌then◌else◌, string_bytes}
use Rattle.std.specs.List.{filter, list_any}
use Rattle.std.specs.Str.{bytes_eq}
use Rattle.clap.specs.Words.{Text}
use Rattle.pam_lsp.specs.declared.document.Document.{Document}

-- a document: its URI, the path of its file, the folder and the name of the file in it, and the version of its text
pub record DocumentText : Type 0 where
  pub uri : Text
  pub path : Text
  pub folder : Text
  pub name : Text
  pub version : ℕ
  pub text : Text

abbrev pub document_view : Document → DocumentText
document_view d = record {
  uri = string_bytes d.uri;
  path = string_bytes d.path;
  folder = string_bytes d.folder;
  name = string_bytes d.name;
  version = d.version;
  text = string_bytes d.text;
}

-- the first document with this path
abbrev pub document_at : Text → List DocumentText → Option DocumentText
document_at path [] = None
document_at path (d ∷ ds) = if bytes_eq d.path path then Some d else document_at path ds

-- the text of the first document with this path
abbrev pub text_at : Text → List DocumentText → Option Text
text_at path [] = None
text_at path (d ∷ ds) = if bytes_eq d.path path then Some d.text else text_at path ds

-- ---- what becomes of them

-- all but the one with this URI
abbrev pub closed : Text → List DocumentText → List DocumentText
closed uri documents = filter (λ d. not (bytes_eq d.uri uri)) documents

-- one is opened, in the place of one with the same URI
abbrev pub opened : DocumentText → List DocumentText → List DocumentText
opened document documents = closed document.uri documents ++ document ∷ []

-- a document has this URI, and an older version
abbrev pub is_older : Text → ℕ → DocumentText → Bool
is_older uri version d = bytes_eq d.uri uri && nat_lt d.version version

abbrev pub has_older : DocumentText → List DocumentText → Bool
has_older document documents = list_any (is_older document.uri document.version) documents

-- one is changed: a version that is not newer is not taken
abbrev pub changed : DocumentText → List DocumentText → List DocumentText
changed document documents = if has_older document documents then opened document documents else documents
