use Rattle.std.proofs.Common.{◌∙◌, ℕ, List, ap, refl, subst, sym}
use Rattle.std.specs.Prelude.{is_some}
use Rattle.pam_facts.specs.Error.{TellsFault}
use Rattle.pam_facts.specs.Reading.{known_rows}
use Rattle.pam_report.proofs.KnownStacks.{facts-wanting}
use Rattle.pam_report.proofs.PolicyAnswers.{by-facts, without-facts}
use Rattle.pam_report.specs.Inputs.{facts_given}
use Rattle.pam_report.specs.inner.Policy.{asked_wants, policy_text}
use Rattle.pam_report.proofs.report.policy.answering.by_facts.Goals as goal

pub returns-in-Ok-clause-answer : goal.returns-in-Ok-clause-answer
returns-in-Ok-clause-answer c =
    let asked = c.args.asked.now in
    by-facts (policy_text asked) asked.files.now asked.inputs.now _ c.in-Ok.facts c.by_rules.result
    (ap known_rows (sym c.facts_file.ensures) ∙ c.in-Ok.ensures) c.by_rules.ensures.answer

pub returns-in-Err-clause-answer : goal.returns-in-Err-clause-answer
returns-in-Err-clause-answer c =
    let asked = c.args.asked.now in
    let told = subst (λ (bytes : List ℕ). TellsFault c.in-Err.error.fault c.in-Err.error (known_rows bytes)) c.facts_file.ensures c.in-Err.ensures in
    rw c.facts_fault.ensures
    (without-facts (policy_text asked) asked.files.now asked.inputs.now (known_rows (facts_given asked.inputs.now)) c.in-Err.error told)

pub returns-in-Err-clause-wants : goal.returns-in-Err-clause-wants
returns-in-Err-clause-wants c =
    let asked = c.args.asked.now in
    rw c.facts_fault.ensures (facts-wanting (asked_wants asked (is_some asked.moment)) c.in-Err.error refl)
