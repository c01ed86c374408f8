use Rattle.pam_report.specs.Answer.{AnswersBy}
use Rattle.pam_report.proofs.report.reply_about_service.Goals as goal

pub returns-in-Access-clause-answer : goal.returns-in-Access-clause-answer
unfolding AnswersBy
returns-in-Access-clause-answer c = rw c.in-Access.is (rw c.deref-in-Access.ensures.value at c.answer_access.ensures.answer)
