use Rattle.std.proofs.Common.{refl}
use Rattle.std.proofs.lemmas.Result.{err_from_is_err_and}
use Rattle.pam_facts.specs.known.Reads.{tables_read}
use Rattle.pam_facts.specs.known.Tables.{tables_view}
use Rattle.pam_policy.specs.host.Sources.{sources_view}
use Rattle.pam_policy.proofs.HostProofs.Answered.{set-fault, set-known}
use Rattle.pam_policy.proofs.host.answers.known_at.Goals as goal

pub returns-in_err-known-clause-known : goal.returns-in_err-known-clause-known
returns-in_err-known-clause-known c =
    let p = err_from_is_err_and c.from_residual.result c.from_residual.ensures.1 in
    rw (p.1, p.2) (set-fault (sources_view c.args.sources.now) c.args.name.now c.args.kind c.args.stack.now c.in_err-known.field-0.0
    c.in_err-known.ensures.known)

pub returns-clause-known : goal.returns-clause-known
returns-clause-known c =
    set-known (sources_view c.args.sources.now) c.args.name.now c.args.kind c.args.stack.now c.in_ok-known.known c.set_missing.new.known
    c.in_ok-known.ensures.known (λ codes allows. c.set_missing.ensures _ (c.set_codes.ensures _ (c.in_ok-set_checked.ensures.known codes allows)))

pub returns-in_err-known-clause-read : goal.returns-in_err-known-clause-read
returns-in_err-known-clause-read c =
    let p = err_from_is_err_and c.from_residual.result c.from_residual.ensures.1 in
    rw (p.1, p.2) c.in_err-known.ensures.read

pub returns-in_err-set_checked-clause-read : goal.returns-in_err-set_checked-clause-read
returns-in_err-set_checked-clause-read c =
    let p = err_from_is_err_and c.from_residual-in_err-set_checked.result c.from_residual-in_err-set_checked.ensures.1 in
    rw (p.1, p.2) (c.in_err-set_checked.ensures.read (tables_read c.args.kind (tables_view c.args.sources.now.tables.now) c.args.stack.now) refl)
