use Rattle.pam_facts.proofs.AnswerSteps.{two_codes}
use Rattle.pam_facts.proofs.answers.successes.Goals as goal

pub returns : goal.returns
returns c = rw (c.insert.ensures, c.single-codes.ensures) two_codes
