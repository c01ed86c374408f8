use Rattle.pam_facts.proofs.AnswerSteps.{three_codes}
use Rattle.pam_facts.proofs.answers.successes_and_ignore.Goals as goal

pub returns : goal.returns
returns c = rw (c.insert.ensures, c.successes-codes.ensures) three_codes
