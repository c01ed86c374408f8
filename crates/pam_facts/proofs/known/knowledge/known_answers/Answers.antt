use Rattle.std.proofs.lemmas.Result.{err_from_is_err_and}
use Rattle.pam_tables.specs.Login.{login_view}
use Rattle.pam_facts.specs.known.Tables.{tables_view}
use Rattle.pam_facts.proofs.KnownProofs.KnowledgeSteps.{knows_fault, knows_there}
use Rattle.pam_facts.proofs.known.knowledge.known_answers.Goals as goal

pub returns-in_err-known-clause-known : goal.returns-in_err-known-clause-known
returns-in_err-known-clause-known c =
    let p = err_from_is_err_and c.from_residual.result c.from_residual.ensures.1 in
    rw (p.1, p.2) (knows_fault c.args.kind (login_view c.args.login.now) (tables_view c.args.tables.now) c.args.stack.now c.in_err-known.field-0.0
    c.in_err-known.ensures.known)

pub returns-clause-known : goal.returns-clause-known
returns-clause-known c =
    knows_there c.args.kind (login_view c.args.login.now) (tables_view c.args.tables.now) c.args.stack.now c.in_ok-known.known c.set_missing.new.known
    c.in_ok-known.ensures.known c.set_missing.ensures

pub returns-in_err-known-clause-read : goal.returns-in_err-known-clause-read
returns-in_err-known-clause-read c =
    let p = err_from_is_err_and c.from_residual.result c.from_residual.ensures.1 in
    rw (p.1, p.2) c.in_err-known.ensures.read
