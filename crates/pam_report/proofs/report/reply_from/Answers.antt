use Rattle.pam_report.specs.Answer.{AnswersBy}
use Rattle.pam_report.proofs.report.reply_from.Goals as goal

pub returns-in-Compare-clause-answer : goal.returns-in-Compare-clause-answer
unfolding AnswersBy
returns-in-Compare-clause-answer c = rw c.in-Compare.is (rw c.deref-in-Compare.ensures.value at c.compared.ensures.answer)
