use Rattle.pam_lsp.proofs.Held.{opened-held}
use Rattle.pam_lsp.proofs.laws.opened_documents_count.Goals as goal

pub returns : goal.returns
returns c = opened-held
