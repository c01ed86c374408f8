use Rattle.pam_report.proofs.PolicyAnswers.{timed}
use Rattle.pam_report.specs.inner.Policy.{policy_text, rules_read}
use Rattle.pam_report.proofs.report.policy.answering.timed.Goals as goal

pub returns-in-None-clause-answer : goal.returns-in-None-clause-answer
returns-in-None-clause-answer c =
    let asked = c.args.asked.now in
    timed (policy_text asked) asked.files.now asked.inputs.now c.args.facts.now (rules_read c.args.policies.items) c.keyed.result asked.moment _
    c.in-None.is c.keyed.ensures.answer
