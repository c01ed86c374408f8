use Rattle.std.proofs.Common.{◌≡◌, ℕ, List, Ok, refl, subst}
use Rattle.std.specs.Prelude.{is_some}
use Rattle.pam_report.proofs.PolicyAnswers.{by-rules, rules-wanting, without-rules}
use Rattle.pam_report.specs.Inputs.{policies_given}
use Rattle.pam_report.specs.Policy.{policies_of}
use Rattle.pam_report.specs.inner.Policy.{IsUnread, asked_wants, policy_text, rules_read}
use Rattle.pam_report.proofs.report.policy.answering.by_rules.Goals as goal

pub returns-in-Ok-clause-answer : goal.returns-in-Ok-clause-answer
returns-in-Ok-clause-answer c =
    let asked = c.args.asked.now in
    by-rules (policy_text asked) asked.files.now asked.inputs.now (policies_of (policies_given asked.inputs.now)) c.args.facts.now
    (rules_read c.in-Ok.policies.items) c.timed.result
    (subst (λ (texts : List (List ℕ)). policies_of texts ≡ Ok (rules_read c.in-Ok.policies.items)) c.policies.ensures c.in-Ok.ensures)
    c.timed.ensures.answer

pub returns-in-Err-clause-answer : goal.returns-in-Err-clause-answer
returns-in-Err-clause-answer c =
    let asked = c.args.asked.now in
    without-rules (policy_text asked) asked.files.now asked.inputs.now (policies_of (policies_given asked.inputs.now)) c.args.facts.now c.in-Err.fault
    (subst (λ (texts : List (List ℕ)). IsUnread (policies_of texts) c.in-Err.fault) c.policies.ensures c.in-Err.ensures)

pub returns-in-Err-clause-wants : goal.returns-in-Err-clause-wants
returns-in-Err-clause-wants c =
    rules-wanting (asked_wants c.args.asked.now (is_some c.args.asked.now.moment)) _ c.in-Err.fault refl c.in-Err.ensures
