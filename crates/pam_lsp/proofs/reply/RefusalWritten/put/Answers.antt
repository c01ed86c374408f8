use Rattle.std.proofs.Common.{◌∙◌, ap, sym}
use Rattle.pam_text.proofs.Writing.{writes-is}
use Rattle.serde_json.specs.Written.{compact_text}
use Rattle.pam_lsp.specs.Replies.{code_of}
use Rattle.pam_lsp.specs.declared.message.Refusal.TheVariants.{NotJson, InvalidRequest, UnknownMethod, WrongParameters, NotInitialized}
use Rattle.pam_lsp.proofs.Codes.{code-text}
use Rattle.pam_lsp.proofs.reply.RefusalWritten.put.Goals as goal

pub returns-in-NotJson : goal.returns-in-NotJson
returns-in-NotJson g c =
    writes-is _ _ _ _ _ _ c.put.ensures (code-text NotJson ∙ ap (λ r. compact_text (code_of r)) (sym c.in-NotJson.is))

pub returns-in-InvalidRequest : goal.returns-in-InvalidRequest
returns-in-InvalidRequest g c =
    writes-is _ _ _ _ _ _ c.put-in-InvalidRequest.ensures (code-text InvalidRequest ∙ ap (λ r. compact_text (code_of r)) (sym c.in-InvalidRequest.is))

pub returns-in-UnknownMethod : goal.returns-in-UnknownMethod
returns-in-UnknownMethod g c =
    writes-is _ _ _ _ _ _ c.put-in-UnknownMethod.ensures (code-text UnknownMethod ∙ ap (λ r. compact_text (code_of r)) (sym c.in-UnknownMethod.is))

pub returns-in-WrongParameters : goal.returns-in-WrongParameters
returns-in-WrongParameters g c =
    writes-is _ _ _ _ _ _ c.put-in-WrongParameters.ensures (code-text WrongParameters ∙ ap (λ r. compact_text (code_of r)) (sym c.in-WrongParameters.is))

pub returns-in-NotInitialized : goal.returns-in-NotInitialized
returns-in-NotInitialized g c =
    writes-is _ _ _ _ _ _ c.put-in-NotInitialized.ensures (code-text NotInitialized ∙ ap (λ r. compact_text (code_of r)) (sym c.in-NotInitialized.is))
