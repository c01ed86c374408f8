use Rattle.std.proofs.Common.{ap}
use Rattle.std.proofs.lemmas.Result.{err_from_is_err_and}
use Rattle.std.specs.Option.{option_map}
use Rattle.pam_tables.specs.Login.{login_view}
use Rattle.pam_facts.specs.known.Tables.{tables_view}
use Rattle.pam_facts.proofs.KnownProofs.ReadTables.{groups_are_read, returns_are_read, tables_are_read}
use Rattle.pam_facts.proofs.KnownProofs.KnowledgeSteps.{groups_fault, known_from_file, known_from_tables, returns_fault, tables_fault}
use Rattle.pam_facts.proofs.known.knowledge.told_answers.Goals as goal
use Rattle.pam_facts.proofs.known.knowledge.told_answers.Goals.{in-Some+in_ok-returns, in_default}

pub returns-in_err-groups-clause-known : goal.returns-in_err-groups-clause-known
returns-in_err-groups-clause-known c =
    let p = err_from_is_err_and c.from_residual.result c.from_residual.ensures.1 in
    rw (p.1, p.2) (groups_fault c.args.kind (login_view c.args.login.now) (tables_view c.args.tables.now) c.args.stack.now c.in_err-groups.field-0.0
    c.in_err-groups.ensures.told)

pub returns-in_err-known-clause-known : goal.returns-in_err-known-clause-known
returns-in_err-known-clause-known c =
    let p = err_from_is_err_and c.from_residual-in_err-known.result c.from_residual-in_err-known.ensures.1 in
    rw (p.1, p.2) (tables_fault c.args.kind (login_view c.args.login.now) (tables_view c.args.tables.now) c.args.stack.now c.in_ok-groups.groups
    c.in_ok-groups.ensures.told c.in_err-known.field-0.0 c.in_err-known.ensures.told)

pub returns-in_err-returns-clause-known : goal.returns-in_err-returns-clause-known
returns-in_err-returns-clause-known c =
    let p = err_from_is_err_and c.from_residual-in_err-returns.result c.from_residual-in_err-returns.ensures.1 in
    rw (p.1, p.2) (returns_fault c.args.kind (login_view c.args.login.now) (tables_view c.args.tables.now) c.args.stack.now c.in_ok-groups.groups
    c.in_ok-groups.ensures.told c.in_ok-known.ensures.told.0 c.in-Some.bytes.now c.in_err-returns.field-0.0 (ap (option_map (λ b. b.now)) c.in-Some.is)
    c.in_err-returns.ensures.0 c.in_err-returns.ensures.1)

pub returns-clause-known : goal.returns-clause-known
returns-clause-known c =
    elim c.match-tables.branch [
      | in-Some+in_ok-returns w ↦
          known_from_file c.args.kind (login_view c.args.login.now) (tables_view c.args.tables.now) c.args.stack.now c.in_ok-groups.groups
          c.in_ok-groups.ensures.told c.in_ok-known.ensures.told.0 w.in-Some.bytes.now w.in_ok-returns.returns c.match-tables.known
          (ap (option_map (λ b. b.now)) w.in-Some.is) w.in_ok-returns.ensures
          (λ number first last. rw w.known-is (w.add_returns.ensures number first last))
      | in_default w ↦
          known_from_tables c.args.kind (login_view c.args.login.now) (tables_view c.args.tables.now) c.args.stack.now c.in_ok-groups.groups
          c.in_ok-groups.ensures.told c.in_ok-known.ensures.told.0 c.match-tables.known (ap (option_map (λ b. b.now)) w.in_default.is)
          (λ number first last. rw w.known-is (c.in_ok-known.ensures.told.1 number first last))
    ]

pub returns-in_err-groups-clause-read : goal.returns-in_err-groups-clause-read
returns-in_err-groups-clause-read c =
    let p = err_from_is_err_and c.from_residual.result c.from_residual.ensures.1 in
    rw (p.1, p.2) (groups_are_read c.args.kind (tables_view c.args.tables.now) c.args.stack.now c.in_err-groups.field-0.0 c.in_err-groups.ensures.read)

pub returns-in_err-known-clause-read : goal.returns-in_err-known-clause-read
returns-in_err-known-clause-read c =
    let p = err_from_is_err_and c.from_residual-in_err-known.result c.from_residual-in_err-known.ensures.1 in
    rw (p.1, p.2) (tables_are_read c.args.kind (tables_view c.args.tables.now) c.args.stack.now c.in_err-known.field-0.0 c.in_err-known.ensures.read)

pub returns-in_err-returns-clause-read : goal.returns-in_err-returns-clause-read
returns-in_err-returns-clause-read c =
    let p = err_from_is_err_and c.from_residual-in_err-returns.result c.from_residual-in_err-returns.ensures.1 in
    rw (p.1, p.2) (returns_are_read c.args.kind (tables_view c.args.tables.now) c.args.stack.now c.in_err-returns.field-0.0 c.in-Some.bytes.now
    c.in_err-returns.ensures.0 (ap (option_map (λ b. b.now)) c.in-Some.is))
