use Rattle.std.proofs.Common.{subst}
use Rattle.pam_facts.specs.known.Tables.{TablesText}
use Rattle.pam_report.specs.inner.Needs.{FindsClass, stack_sources}
use Rattle.pam_report.proofs.report.needs.class_timed.Goals as goal

pub returns : goal.returns
returns c =
    let sources = c.args.sources.now in
    let asked = c.args.request.now in
    subst (λ (t : TablesText). FindsClass asked (stack_sources sources asked t) c.class_with.result) c.tables_with-tables.ensures c.class_with.ensures
