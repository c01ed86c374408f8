-- The replies to requests.
use Rattle.std.specs.Prelude.{negsuc, [], ◌∷◌, codes}
use Rattle.clap.specs.Words.{Text}
use Rattle.pam_render.specs.json_lines.Line.{members_of}
use Rattle.serde_json.specs.Data.{Data, negative, null, number, object, string, unsigned}
use Rattle.serde_json.specs.Written.{compact_text}
use Rattle.pam_lsp.specs.declared.message.Refusal.{Refusal}
use Rattle.pam_lsp.specs.declared.message.Refusal.TheVariants.{NotJson, InvalidRequest, UnknownMethod, WrongParameters, NotInitialized}
use Rattle.pam_lsp.specs.declared.position.Encoding.{Encoding}
use Rattle.pam_lsp.specs.declared.position.Encoding.TheVariants.{Utf8, Utf16}
use Rattle.pam_lsp.specs.declared.reply.Answer.{Answer}
use Rattle.pam_lsp.specs.declared.reply.Answer.TheVariants.{Welcome, Nothing, Refused}

-- the codes of JSON-RPC and of the protocol: -32700, -32600, -32601, -32602 and -32002
abbrev pub code_of : Refusal → Data
code_of NotJson = number (negative (negsuc 32699))
code_of InvalidRequest = number (negative (negsuc 32599))
code_of UnknownMethod = number (negative (negsuc 32600))
code_of WrongParameters = number (negative (negsuc 32601))
code_of NotInitialized = number (negative (negsuc 32001))

abbrev pub sentence_of : Refusal → Text
sentence_of NotJson = codes "the message is no JSON"
sentence_of InvalidRequest = codes "the message is no valid request"
sentence_of UnknownMethod = codes "the method is not known"
sentence_of WrongParameters = codes "the parameters are wrong"
sentence_of NotInitialized = codes "the server is not initialized"

abbrev pub error_object : Refusal → Data
error_object refusal = object (members_of ((codes "code", code_of refusal) ∷ (codes "message", string (sentence_of refusal)) ∷ []))

abbrev pub encoding_name : Encoding → Text
encoding_name Utf8 = codes "utf-8"
encoding_name Utf16 = codes "utf-16"

-- each change of a document is its whole text, which is kind 1
abbrev pub capabilities_object : Encoding → Data
capabilities_object encoding =
    object (members_of ((codes "positionEncoding", string (encoding_name encoding)) ∷ (codes "textDocumentSync", number (unsigned 1)) ∷ []))

abbrev pub welcome_object : Encoding → Data
welcome_object encoding = object (members_of ((codes "capabilities", capabilities_object encoding) ∷ []))

abbrev pub answer_member : Answer → Text × Data
answer_member (Welcome encoding) = (codes "result", welcome_object encoding)
answer_member Nothing = (codes "result", null)
answer_member (Refused refusal) = (codes "error", error_object refusal)

-- THE REPLY to the request with this id
abbrev pub reply_text : Data → Answer → Text
reply_text id answer =
    compact_text (object (members_of ((codes "jsonrpc", string (codes "2.0")) ∷ (codes "id", id) ∷ answer_member answer ∷ [])))
