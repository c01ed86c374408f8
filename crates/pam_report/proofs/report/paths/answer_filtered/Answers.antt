use Rattle.std.proofs.Common.{Ok, None, ap}
use Rattle.pam_paths.specs.Known.{may_answer}
use Rattle.pam_report.proofs.GoalPages.{filter-is}
use Rattle.pam_report.specs.inner.PageView.{page_view}
use Rattle.pam_report.specs.Reply.{Reply}
use Rattle.pam_words.specs.declared.wanted.PathFilter.TheVariants.{All, Asks, Decides}
use Rattle.pam_report.proofs.report.paths.answer_filtered.Goals as goal

pub returns-in-All-clause-answer : goal.returns-in-All-clause-answer
returns-in-All-clause-answer c allows agree =
    let ok = λ (reply : Reply). Ok reply in
    filter-is (Ok c.page_by.result) (page_view c.args.request.now) c.args.found.stack allows All _ c.in-All.is
    (c.args.program, may_answer c.args.found.known, None, agree, (c.requires, tt), ap ok c.page_by.ensures)

pub returns-in-Decides-clause-answer : goal.returns-in-Decides-clause-answer
returns-in-Decides-clause-answer c allows agree =
    filter-is _ (page_view c.args.request.now) c.args.found.stack allows (Decides c.in-Decides.decisions) _ c.in-Decides.is
    (c.answer_goal.ensures.answer allows agree)

pub returns-in-Asks-clause-answer : goal.returns-in-Asks-clause-answer
returns-in-Asks-clause-answer c allows agree =
    filter-is _ (page_view c.args.request.now) c.args.found.stack allows (Asks c.in-Asks.number) _ c.in-Asks.is
    (c.answer_asking.ensures.answer allows agree)
