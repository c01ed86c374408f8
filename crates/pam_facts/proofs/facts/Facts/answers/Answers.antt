use Rattle.pam_facts.proofs.AnswerSteps.{allowed, at_some}
use Rattle.pam_facts.proofs.facts.Facts.answers.Goals as goal

pub returns : goal.returns
returns c = λ number code first last small. allowed _ _ code (c.known.ensures number first last) (at_some _ _ _ _ _ _) small
