use Rattle.std.proofs.Common.{◌≡◌, ◌∙◌, arith, length}
use Rattle.pam_report.proofs.TraceSteps.{answer-is}
use Rattle.pam_report.proofs.report.decide.decided_stack.Goals as goal

pub returns-in-Ok-of-clause-answer : goal.returns-in-Ok-of-clause-answer
returns-in-Ok-of-clause-answer c =
    let same = c.modules-modules.ensures.count ∙ c.in-Ok.ensures.modules in
    let each : length c.args.codes.now ≡ c.modules-modules.result = omega (arith, c.if-codes-modules.false) in
    answer-is c.args.service.now c.args.kind c.args.stack.now c.args.codes.now _ _ _ _ each same c.in-Ok.ensures.runs c.in-Ok-of.ensures.asked
    c.in-Ok-of.ensures.decision
