use Rattle.std.proofs.Common.{Some, map}
use Rattle.std.specs.Char.{to_ascii_lowercase}
use Rattle.pam_report.proofs.NeedsAnswers.{class-graph, from-class, without-class}
use Rattle.pam_report.specs.Inputs.{tables_given}
use Rattle.pam_report.specs.Memory.{paths_tables}
use Rattle.std.specs.Prelude.{is_some}
use Rattle.pam_report.specs.inner.Needs.{stack_sources}
use Rattle.pam_report.proofs.report.needs.answer_at.Goals as goal

pub answer_class-requires : goal.answer_class-requires
answer_class-requires c =
    let sources = c.args.sources.now in
    let asked = c.args.request.now in
    class-graph (stack_sources sources asked (tables_given sources.inputs.now (Some c.args.facts.now) c.args.moment)) (map to_ascii_lowercase asked.service.now)
    asked.kind c.in-Ok.class c.in-Ok.ensures.class

pub returns-in-Ok-clause-answer : goal.returns-in-Ok-clause-answer
returns-in-Ok-clause-answer c =
    let sources = c.args.sources.now in
    let asked = c.args.request.now in
    from-class asked c.args.facts.now (stack_sources sources asked (tables_given sources.inputs.now (Some c.args.facts.now) c.args.moment))
    c.in-Ok.class c.answer_class.result c.in-Ok.ensures.class c.answer_class.ensures.answer

pub returns-in-Ok-clause-wants : goal.returns-in-Ok-clause-wants
returns-in-Ok-clause-wants c = c.answer_class.ensures.wants (paths_tables (is_some c.args.moment) c.args.sources.now.inputs.now)

pub returns-in-Err-clause-answer : goal.returns-in-Err-clause-answer
returns-in-Err-clause-answer c =
    let sources = c.args.sources.now in
    let asked = c.args.request.now in
    without-class asked c.args.facts.now (stack_sources sources asked (tables_given sources.inputs.now (Some c.args.facts.now) c.args.moment)) c.in-Err.fault
    c.in-Err.ensures.class
