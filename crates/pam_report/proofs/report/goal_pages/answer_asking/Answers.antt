use Rattle.std.proofs.Common.{arith}
use Rattle.pam_report.specs.inner.PageView.{page_view}
use Rattle.pam_report.proofs.GoalPages.{asking}
use Rattle.pam_report.proofs.report.goal_pages.answer_asking.Goals as goal

pub returns-clause-answer : goal.returns-clause-answer
returns-clause-answer c allows agree =
    asking _ (page_view c.args.request.now) c.args.found.stack allows c.args.number
    (omega (arith, c.if-modules-module_number.false, c.modules.ensures.count, c.requires.1)) (c.answer_goal.ensures.answer allows agree)
