use Rattle.std.proofs.Common.{Ok, Some, ap, inr}
use Rattle.pam_paths.specs.Known.{may_answer}
use Rattle.pam_report.specs.Reply.{Reply}
use Rattle.pam_report.proofs.report.goal_pages.answer_goal.Goals as goal

pub returns-in-Ok-clause-answer : goal.returns-in-Ok-clause-answer
returns-in-Ok-clause-answer c allows agree =
    let ok = λ (reply : Reply). Ok reply in
    let listing = c.in-Ok.ensures.stack c.args.found.stack c.requires.0 in
    inr (c.args.program, may_answer c.args.found.known, Some c.in-Ok.graph, agree, (c.requires, listing), ap ok c.page_by.ensures)
