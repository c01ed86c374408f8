use Rattle.std.proofs.Common.{◌∙◌, true, sym}
use Rattle.pam_report.proofs.PolicyAnswers.{keyed}
use Rattle.pam_report.specs.inner.Policy.{policy_text, rules_read}
use Rattle.pam_report.proofs.report.policy.answering.keyed.Goals as goal

pub returns-in-Ok-true-clause-answer : goal.returns-in-Ok-true-clause-answer
returns-in-Ok-true-clause-answer c =
    let asked = c.args.asked.now in
    keyed (policy_text asked) asked.files.now asked.inputs.now c.args.facts.now (rules_read c.args.policies.items) c.judged.result c.args.moment _ true
    (sym c.in-Ok-true.ensures ∙ c.in-Ok-true.field-0-test) c.judged.ensures.answer
