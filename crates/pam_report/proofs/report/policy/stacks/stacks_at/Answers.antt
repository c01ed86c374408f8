use Rattle.std.proofs.Common.{Some, refl, subst}
use Rattle.pam_facts.specs.known.Tables.{TablesText}
use Rattle.pam_report.proofs.KnownStacks.{tables-are}
use Rattle.pam_report.proofs.PolicyAnswers.{stacks-wanting}
use Rattle.pam_report.specs.Policy.{sources_of}
use Rattle.pam_report.specs.inner.Policy.{FindsStacks, policy_text, sources_with}
use Rattle.pam_report.proofs.report.policy.stacks.stacks_at.Goals as goal

pub returns-clause-stacks : goal.returns-clause-stacks
returns-clause-stacks c =
    let asked = c.args.asked.now in
    let are = tables-are asked.inputs.now (Some c.args.facts.now) c.args.moment _ _ refl c.timed_given.ensures in
    subst (λ (t : TablesText). FindsStacks (sources_with asked t) c.stacks_timed.result) are c.stacks_timed.ensures

pub returns-clause-wants : goal.returns-clause-wants
returns-clause-wants c =
    let asked = c.args.asked.now in
    let are = tables-are asked.inputs.now (Some c.args.facts.now) c.args.moment _ _ refl c.timed_given.ensures in
    stacks-wanting (sources_of (policy_text asked) asked.files.now asked.inputs.now c.args.facts.now c.args.moment) asked.inputs.now
    (Some c.args.facts.now) c.args.moment c.stacks_timed.result refl
    (subst (λ (t : TablesText). FindsStacks (sources_with asked t) c.stacks_timed.result) are c.stacks_timed.ensures)
