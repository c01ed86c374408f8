-- The state of a server, and what a message makes of it.
use Rattle.std.specs.Prelude.{◌≡◌, ℕ, Bool, true, false, List, [], ◌∷◌, ◌++◌, Option, Some, None, MatchBool, map, string_bytes}
use Rattle.clap.specs.Words.{Text}
use Rattle.pam_cli.specs.System.{Told}
use Rattle.serde_json.specs.Data.{Data}
use Rattle.pam_lsp.specs.Documents.{DocumentText, changed, closed, document_view, opened}
use Rattle.pam_lsp.specs.Messages.{MessageText, NoticeText, exit, notice, other, refused, request, was_changed, was_closed, was_opened}
use Rattle.pam_lsp.specs.Publishing.{Publishes}
use Rattle.pam_lsp.specs.Replies.{reply_text}
use Rattle.pam_lsp.specs.declared.message.Asked.{Asked}
use Rattle.pam_lsp.specs.declared.message.Asked.TheVariants.{Initialize, Shutdown, Other}
use Rattle.pam_lsp.specs.declared.message.Refusal.TheVariants.{InvalidRequest, UnknownMethod, NotInitialized}
use Rattle.pam_lsp.specs.declared.position.Encoding.{Encoding}
use Rattle.pam_lsp.specs.declared.position.Encoding.TheVariants.{Utf16}
use Rattle.pam_lsp.specs.declared.reply.Answer.{Answer}
use Rattle.pam_lsp.specs.declared.reply.Answer.TheVariants.{Welcome, Nothing, Refused}
use Rattle.pam_lsp.specs.declared.state.Phase.{Phase}
use Rattle.pam_lsp.specs.declared.state.Phase.TheVariants.{Fresh, Running, Ended}
use Rattle.pam_lsp.specs.declared.state.State.{State}

-- how far the session is, the units that are agreed on, the open documents, and the files of which findings are published
pub record StateText : Type 0 where
  pub phase : Phase
  pub encoding : Encoding
  pub documents : List DocumentText
  pub published : List Text

abbrev pub state_view : State → StateText
state_view state = record {
  phase = state.phase;
  encoding = state.encoding;
  documents = map document_view state.documents.items;
  published = map string_bytes state.published.items;
}

abbrev pub fresh : StateText
fresh = record { phase = Fresh; encoding = Utf16; documents = []; published = [] }

-- ---- requests

abbrev pub answer_of : Phase → Asked → Answer
answer_of Fresh (Initialize encoding) = Welcome encoding
answer_of Fresh asked = Refused NotInitialized
answer_of Running (Initialize encoding) = Refused InvalidRequest
answer_of Running Shutdown = Nothing
answer_of Running Other = Refused UnknownMethod
answer_of Ended asked = Refused InvalidRequest

abbrev pub phase_after : Phase → Asked → Phase
phase_after Fresh (Initialize encoding) = Running
phase_after Running Shutdown = Ended
phase_after phase asked = phase

abbrev pub encoding_after : Phase → Encoding → Asked → Encoding
encoding_after Fresh old (Initialize encoding) = encoding
encoding_after phase old asked = old

-- a request has one reply, with its id; documents and files stay as they are
pub record Answers (id : Data) (asked : Asked) (old new : StateText) (before after : List Text) : Type 0 where
  pub phase : new.phase ≡ phase_after old.phase asked
  pub encoding : new.encoding ≡ encoding_after old.phase old.encoding asked
  pub documents : new.documents ≡ old.documents
  pub published : new.published ≡ old.published
  pub sent : after ≡ before ++ reply_text id (answer_of old.phase asked) ∷ []

-- ---- notifications

abbrev pub documents_after : NoticeText → List DocumentText → List DocumentText
documents_after (was_opened document) documents = opened document documents
documents_after (was_changed document) documents = changed document documents
documents_after (was_closed uri) documents = closed uri documents
documents_after says documents = documents

-- the folders are checked again
abbrev pub is_checked_after : NoticeText → Bool
is_checked_after exit = false
is_checked_after other = false
is_checked_after says = true

abbrev pub Unchanged : StateText → StateText → List Text → List Text → Type 0
Unchanged old new before after = (new ≡ old) × (after ≡ before)

-- the folders of the documents are checked, and what is found is published
pub record ChecksAgain (told : Told) (old new : StateText) (before after : List Text) : Type 0 where
  pub phase : new.phase ≡ old.phase
  pub encoding : new.encoding ≡ old.encoding
  pub documents : new.documents ≡ old.documents
  pub publishes : Publishes told old.encoding old.documents old.published new.published before after

abbrev pub with_documents : List DocumentText → StateText → StateText
with_documents documents state = record {
  phase = state.phase;
  encoding = state.encoding;
  documents = documents;
  published = state.published;
}

abbrev pub NotesRunning : Told → NoticeText → StateText → StateText → List Text → List Text → Type 0
NotesRunning told says old new before after = MatchBool (is_checked_after says)
    (ChecksAgain told (with_documents (documents_after says old.documents) old) new before after) (Unchanged old new before after)

-- a session that does not run passes over what it is told
abbrev pub NotesIn : Told → Phase → NoticeText → StateText → StateText → List Text → List Text → Type 0
NotesIn told Running says old new before after = NotesRunning told says old new before after
NotesIn told phase says old new before after = Unchanged old new before after

abbrev pub Notes : Told → NoticeText → StateText → StateText → List Text → List Text → Type 0
Notes told says old new before after = NotesIn told old.phase says old new before after

abbrev pub exit_status : Phase → ℕ
exit_status Ended = 0
exit_status phase = 1

-- what ends the session
abbrev pub status_after : Phase → NoticeText → Option ℕ
status_after phase exit = Some (exit_status phase)
status_after phase says = None

-- ---- messages

-- WHAT A MESSAGE DOES: a request has one reply, a message that is refused leaves the state as it was, and a notification has no reply.
-- `status` is that with which the session ends, if it ends
abbrev pub Steps : Told → MessageText → StateText → StateText → List Text → List Text → Option ℕ → Type 0
Steps told (refused id refusal) old new before after status =
    (new ≡ old) × (after ≡ before ++ reply_text id (Refused refusal) ∷ []) × (status ≡ None)
Steps told (request id asked) old new before after status = Answers id asked old new before after × (status ≡ None)
Steps told (notice says) old new before after status = Notes told says old new before after × (status ≡ status_after old.phase says)
