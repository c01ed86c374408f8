-- What holds of the documents that an editor has open, whatever it said before.
use Rattle.std.specs.Prelude.{◌≡◌, false, List, [], ◌∷◌, Option, Some, None, if◌then◌else◌}
use Rattle.std.specs.Str.{bytes_eq}
use Rattle.clap.specs.Words.{Text}
use Rattle.pam_lsp.specs.Documents.{DocumentText, closed, opened}

-- the first document with this URI
abbrev pub held : Text → List DocumentText → Option DocumentText
held uri [] = None
held uri (d ∷ ds) = if bytes_eq d.uri uri then Some d else held uri ds

-- a document that is opened is held, in the place of any other with its URI
abbrev pub OpenedIsHeld : Type 0
OpenedIsHeld = (document : DocumentText) (documents : List DocumentText) → held document.uri (opened document documents) ≡ Some document

-- one that is closed is not
abbrev pub ClosedIsGone : Type 0
ClosedIsGone = (uri : Text) (documents : List DocumentText) → held uri (closed uri documents) ≡ None

-- and the others stay
abbrev pub OthersStay : Type 0
OthersStay =
    (uri other : Text) (documents : List DocumentText) → bytes_eq uri other ≡ false → held other (closed uri documents) ≡ held other documents
