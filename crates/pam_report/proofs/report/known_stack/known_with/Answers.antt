use Rattle.std.proofs.Common.{subst}
use Rattle.std.specs.Prelude.{IfErr}
use Rattle.pam_facts.specs.known.Knowledge.{knowledge}
use Rattle.pam_facts.specs.known.Reads.{tables_read}
use Rattle.pam_facts.specs.known.Tables.{TablesText}
use Rattle.pam_tables.specs.Login.{login_view}
use Rattle.pam_report.specs.inner.Known.{FindsKnown, IsFaultOfRead}
use Rattle.pam_report.specs.KnownStack.{known_items}
use Rattle.pam_report.proofs.report.known_stack.known_with.Goals as goal

pub returns-clause-known : goal.returns-clause-known
returns-clause-known c =
    let items = c.args.stack.now in
    subst (λ (t : TablesText). FindsKnown items c.known_by.result (known_items items (knowledge c.args.kind (login_view c.args.login.now) t items)))
    c.tables_with-tables.ensures c.known_by.ensures.known

pub returns-clause-read : goal.returns-clause-read
returns-clause-read c =
    subst (λ (t : TablesText). IfErr c.known_by.result (IsFaultOfRead (tables_read c.args.kind t c.args.stack.now)))
    c.tables_with-tables.ensures c.known_by.ensures.read
