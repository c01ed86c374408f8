use Rattle.std.proofs.Common.{subst}
use Rattle.pam_facts.specs.known.Tables.{TablesText}
use Rattle.pam_report.specs.inner.Policy.{FindsStacks, sources_with}
use Rattle.pam_report.proofs.report.policy.stacks.stacks_timed.Goals as goal

pub returns : goal.returns
returns c =
    subst (λ (t : TablesText). FindsStacks (sources_with c.args.asked.now t) c.stacks_with.result) c.tables_with-tables.ensures c.stacks_with.ensures
