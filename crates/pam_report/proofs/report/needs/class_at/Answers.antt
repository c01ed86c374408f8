use Rattle.std.proofs.Common.{Some, refl, subst}
use Rattle.pam_facts.specs.known.Tables.{TablesText}
use Rattle.pam_report.proofs.KnownStacks.{tables-are}
use Rattle.pam_report.proofs.NeedsAnswers.{class-wanting}
use Rattle.pam_report.specs.Inputs.{tables_given}
use Rattle.pam_report.specs.inner.Needs.{FindsClass, stack_sources}
use Rattle.pam_report.proofs.report.needs.class_at.Goals as goal

pub returns-clause-class : goal.returns-clause-class
returns-clause-class c =
    let sources = c.args.sources.now in
    let asked = c.args.request.now in
    let are = tables-are sources.inputs.now (Some c.args.facts.now) c.args.moment _ _ refl c.timed_given.ensures in
    subst (λ (t : TablesText). FindsClass asked (stack_sources sources asked t) c.class_timed.result) are c.class_timed.ensures

pub returns-clause-wants : goal.returns-clause-wants
returns-clause-wants c =
    let sources = c.args.sources.now in
    let asked = c.args.request.now in
    let are = tables-are sources.inputs.now (Some c.args.facts.now) c.args.moment _ _ refl c.timed_given.ensures in
    class-wanting asked c.args.facts.now (stack_sources sources asked (tables_given sources.inputs.now (Some c.args.facts.now) c.args.moment))
    sources.inputs.now c.args.moment c.class_timed.result refl
    (subst (λ (t : TablesText). FindsClass asked (stack_sources sources asked t) c.class_timed.result) are c.class_timed.ensures)
