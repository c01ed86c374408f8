use Rattle.std.proofs.Common.{refl, subst}
use Rattle.std.specs.Prelude.{IfErr}
use Rattle.pam_facts.specs.known.Knowledge.{knowledge}
use Rattle.pam_facts.specs.known.Reads.{tables_read}
use Rattle.pam_facts.specs.known.Tables.{TablesText}
use Rattle.pam_tables.specs.Login.{login_view}
use Rattle.pam_report.proofs.KnownStacks.{tables-are, wants-read}
use Rattle.pam_report.specs.inner.Known.{FindsKnown, IsFaultOfRead, rows_of}
use Rattle.pam_report.specs.KnownStack.{known_items}
use Rattle.pam_report.proofs.report.known_stack.known_at.Goals as goal

pub returns-clause-known : goal.returns-clause-known
returns-clause-known c =
    let items = c.args.stack.now in
    let given = c.args.given in
    let are = tables-are given.inputs.now (rows_of given.facts) c.args.moment _ _ refl c.timed_given.ensures in
    subst (λ (t : TablesText). FindsKnown items c.known_with.result (known_items items (knowledge c.args.kind (login_view c.args.login.now) t items)))
    are c.known_with.ensures.known

pub returns-clause-wants : goal.returns-clause-wants
returns-clause-wants c =
    let given = c.args.given in
    let are = tables-are given.inputs.now (rows_of given.facts) c.args.moment _ _ refl c.timed_given.ensures in
    wants-read c.args.kind given.inputs.now (rows_of given.facts) c.args.moment c.args.stack.now c.known_with.result
    (subst (λ (t : TablesText). IfErr c.known_with.result (IsFaultOfRead (tables_read c.args.kind t c.args.stack.now))) are c.known_with.ensures.read)
