-- What a message of the client asks.
use Rattle.std.specs.Prelude.{◌≡◌, ◌⊎◌, ℕ, ◌-◌, Bool, false, ◌||◌, List, [], ◌∷◌, Option, Some, None, codes, if◌then◌else◌, is_some, length}
use Rattle.std.specs.Prelude.{option_and_then, slice_get, string_bytes, unwrap_or}
use Rattle.std.specs.List.{list_any}
use Rattle.std.specs.Option.{option_map, option_map_or}
use Rattle.std.specs.Str.{IsUtf8, bytes_eq}
use Rattle.clap.specs.Words.{Text}
use Rattle.serde_json.specs.Data.{Data, Items, item, no_items, null, number, object, string, unsigned}
use Rattle.serde_json.specs.Find.{as_array, as_number, as_str, as_u64, get, pointer}
use Rattle.serde_json.specs.Read.{read}
use Rattle.pam_lsp.specs.Documents.{DocumentText}
use Rattle.pam_lsp.specs.Documents as documents
use Rattle.pam_lsp.specs.Places.{document_of}
use Rattle.pam_lsp.specs.declared.document.Document.{Document}
use Rattle.pam_lsp.specs.declared.message.Asked.{Asked}
use Rattle.pam_lsp.specs.declared.message.Asked.TheVariants as asks
use Rattle.pam_lsp.specs.declared.message.Id.{Id}
use Rattle.pam_lsp.specs.declared.message.Id.TheVariants as ids
use Rattle.pam_lsp.specs.declared.message.Message.{Message}
use Rattle.pam_lsp.specs.declared.message.Message.TheVariants as messages
use Rattle.pam_lsp.specs.declared.message.Notice.{Notice}
use Rattle.pam_lsp.specs.declared.message.Notice.TheVariants as notices
use Rattle.pam_lsp.specs.declared.message.Refusal.{Refusal}
use Rattle.pam_lsp.specs.declared.message.Refusal.TheVariants.{NotJson, InvalidRequest, WrongParameters}
use Rattle.pam_lsp.specs.declared.position.Encoding.{Encoding}
use Rattle.pam_lsp.specs.declared.position.Encoding.TheVariants.{Utf8, Utf16}

-- what a notification says
pub data NoticeText : Type 0 where
  was_opened : DocumentText → NoticeText
  was_changed : DocumentText → NoticeText
  -- the document with this URI
  was_closed : Text → NoticeText
  -- files have changed
  saved : NoticeText
  exit : NoticeText
  -- what is passed over
  other : NoticeText

-- a message. The id of a request is a value, which its reply has too
pub data MessageText : Type 0 where
  refused : Data → Refusal → MessageText
  request : Data → Asked → MessageText
  notice : NoticeText → MessageText

abbrev pub document_view : Document → DocumentText
document_view d = documents.document_view d

abbrev pub notice_view : Notice → NoticeText
notice_view (notices.Opened d) = was_opened (document_view d)
notice_view (notices.Changed d) = was_changed (document_view d)
notice_view (notices.Closed uri) = was_closed (string_bytes uri)
notice_view notices.Saved = saved
notice_view notices.Exit = exit
notice_view notices.Other = other

abbrev pub id_view : Id → Data
id_view ids.Null = null
id_view (ids.Number n) = number (unsigned n)
id_view (ids.Text text) = string (string_bytes text)

abbrev pub message_view : Message → MessageText
message_view (messages.Refused id refusal) = refused (id_view id) refusal
message_view (messages.Request id asked) = request (id_view id) asked
message_view (messages.Notice n) = notice (notice_view n)

-- ---- parameters

abbrev pub text_at : Text → Data → Option Text
text_at path d = option_and_then as_str (pointer path d)

abbrev pub number_at : Text → Data → Option ℕ
number_at path d = option_and_then as_u64 (option_and_then as_number (pointer path d))

abbrev pub items_list : Items → List Data
items_list no_items = []
items_list (item d ds) = d ∷ items_list ds

-- what an array holds
abbrev pub items_of : Data → Option (List Data)
items_of d = option_map items_list (as_array d)

abbrev pub items_at : Text → Data → Option (List Data)
items_at path d = option_and_then items_of (pointer path d)

-- a document, if all that it needs is there, and it is that of a file in a folder pam.d
abbrev pub document_in : Option Text → Option ℕ → Option Text → Option DocumentText
document_in (Some uri) (Some version) (Some text) = document_of uri version text
document_in uri version text = None

-- ---- notifications

abbrev pub if_document : (DocumentText → NoticeText) → Option DocumentText → NoticeText
if_document says document = option_map_or says document other

abbrev pub opened : Data → NoticeText
opened d = if_document was_opened
    (document_in (text_at (codes "/params/textDocument/uri") d) (number_at (codes "/params/textDocument/version") d)
    (text_at (codes "/params/textDocument/text") d))

-- the text of the last of several changes, each of which is the whole text
abbrev pub last_text : List Data → Option Text
last_text changes = option_and_then (text_at (codes "/text")) (slice_get changes (length changes - 1))

abbrev pub changed_text : Data → Option Text
changed_text d = option_and_then last_text (items_at (codes "/params/contentChanges") d)

abbrev pub changed : Data → NoticeText
changed d = if_document was_changed
    (document_in (text_at (codes "/params/textDocument/uri") d) (number_at (codes "/params/textDocument/version") d) (changed_text d))

abbrev pub closed : Data → NoticeText
closed d = option_map_or was_closed (text_at (codes "/params/textDocument/uri") d) other

abbrev pub notice_of : Text → Data → NoticeText
notice_of method d =
    if bytes_eq method (codes "textDocument/didOpen") then opened d
    else if bytes_eq method (codes "textDocument/didChange") then changed d
    else if bytes_eq method (codes "textDocument/didClose") then closed d
    else if bytes_eq method (codes "textDocument/didSave") || bytes_eq method (codes "workspace/didChangeWatchedFiles") then saved
    else if bytes_eq method (codes "exit") then exit
    else other

-- ---- requests

-- a number that is not negative, or a text
abbrev pub first_of : {A : Type 0} → Option A → Option A → Option A
first_of (Some x) second = Some x
first_of None second = second

abbrev pub id_of : Data → Option Data
id_of d = first_of (option_map (λ n. number (unsigned n)) (option_and_then as_u64 (as_number d))) (option_map string (as_str d))

abbrev pub is_text : Text → Option Text → Bool
is_text text (Some found) = bytes_eq found text
is_text text None = false

abbrev pub has_text : Text → List Data → Bool
has_text text values = list_any (λ d. is_text text (as_str d)) values

-- bytes, if the client offers them
abbrev pub encoding_among : List Data → Encoding
encoding_among offered = if has_text (codes "utf-8") offered then Utf8 else Utf16

abbrev pub encoding_of : Data → Encoding
encoding_of d = option_map_or encoding_among (items_at (codes "/params/capabilities/general/positionEncodings") d) Utf16

abbrev pub initialized_by : Option Data → Data → Option Asked
initialized_by (Some (object _)) d = Some (asks.Initialize (encoding_of d))
initialized_by parameters d = None

-- what a request asks, if it has its parameters
abbrev pub asked_of : Text → Data → Option Asked
asked_of method d =
    if bytes_eq method (codes "initialize") then initialized_by (get (codes "params") d) d
    else if bytes_eq method (codes "shutdown") then Some asks.Shutdown
    else Some asks.Other

abbrev pub request_of : Data → Text → Data → MessageText
request_of id method d = option_map_or (request id) (asked_of method d) (refused id WrongParameters)

-- ---- messages

-- with an id that can be read, or with another one
abbrev pub identified : Option Data → Text → Data → MessageText
identified (Some id) method d = request_of id method d
identified None method d = refused null InvalidRequest

-- without an id it is a notification
abbrev pub called_by : Option Data → Text → Data → MessageText
called_by None method d = notice (notice_of method d)
called_by (Some id) method d = identified (id_of id) method d

abbrev pub called : Text → Data → MessageText
called method d = called_by (get (codes "id") d) method d

abbrev pub is_response : Data → Bool
is_response d = is_some (get (codes "result") d) || is_some (get (codes "error") d)

abbrev pub id_or_null : Data → Data
id_or_null d = unwrap_or (option_and_then id_of (get (codes "id") d)) null

abbrev pub uncalled : Data → MessageText
uncalled d = if is_response d then notice other else refused (id_or_null d) InvalidRequest

abbrev pub message_in : Data → MessageText
message_in d = option_map_or (λ method. called method d) (text_at (codes "/method") d) (uncalled d)

-- THE MESSAGE that a text is: what its JSON says, or that it is none
abbrev pub Reads : Text → MessageText → Type 0
Reads text message =
    ((d : Data) × IsUtf8 text × (read text ≡ Some d) × (message ≡ message_in d))
    ⊎ ((IsUtf8 text → read text ≡ None) × (message ≡ refused null NotJson))
