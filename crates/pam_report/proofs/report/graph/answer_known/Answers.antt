use Rattle.std.proofs.Common.{◌∙◌, inr, sym}
use Rattle.pam_report.proofs.Drawings.{drawn-is, graph-is, refused-is}
use Rattle.pam_report.proofs.report.graph.answer_known.Goals as goal

pub returns-then-is_too_large-clause-answer : goal.returns-then-is_too_large-clause-answer
returns-then-is_too_large-clause-answer c allows agree =
    let stack = c.args.request.now.stack in
    let graph = c.in-Ok.graph in
    inr (
      graph,
      graph-is c.args.found.stack c.args.found.known allows graph agree c.in-Ok.ensures,
      refused-is c.args.request.now.format stack.service.now stack.kind c.args.found.stack graph (sym c.is_too_large.ensures ∙ c.if-is_too_large.true),
    )

pub returns-clause-answer : goal.returns-clause-answer
returns-clause-answer c allows agree =
    let stack = c.args.request.now.stack in
    let graph = c.in-Ok.graph in
    inr (
      graph,
      graph-is c.args.found.stack c.args.found.known allows graph agree c.in-Ok.ensures,
      drawn-is c.args.request.now.format stack.service.now stack.kind c.args.found.stack graph (sym c.is_too_large.ensures ∙ c.if-is_too_large.false),
    )
