use Rattle.pam_lsp.proofs.Held.{gone, stay}
use Rattle.pam_lsp.proofs.laws.closed_documents_are_gone.Goals as goal

pub returns-clause-gone : goal.returns-clause-gone
returns-clause-gone c = gone

pub returns-clause-others : goal.returns-clause-others
returns-clause-others c = stay
