-- The texts of the codes of refusals.
use Rattle.std.proofs.Common.{◌≡◌, List, ℕ, codes, refl}
use Rattle.std.specs.Fmt.{digits}
use Rattle.serde_json.specs.Written.{compact_text}
use Rattle.pam_lsp.specs.Replies.{code_of}
use Rattle.pam_lsp.specs.declared.message.Refusal.{Refusal}
use Rattle.pam_lsp.specs.declared.message.Refusal.TheVariants.{NotJson, InvalidRequest, UnknownMethod, WrongParameters, NotInitialized}

abbrev pub text_of : Refusal → List ℕ
text_of NotJson = codes "-32700"
text_of InvalidRequest = codes "-32600"
text_of UnknownMethod = codes "-32601"
text_of WrongParameters = codes "-32602"
text_of NotInitialized = codes "-32002"

pub code-text : (refusal : Refusal) → text_of refusal ≡ compact_text (code_of refusal)
unfolding digits
code-text NotJson = refl
code-text InvalidRequest = refl
code-text UnknownMethod = refl
code-text WrongParameters = refl
code-text NotInitialized = refl
