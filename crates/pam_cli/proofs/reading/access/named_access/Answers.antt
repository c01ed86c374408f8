use Rattle.std.proofs.Common.{List, ℕ, map, subst, ◌∷◌, []}
use Rattle.std.proofs.lemmas.Result.{err_from_is_err_and}
use Rattle.pam_cli.proofs.AccessTables.{next_named}
use Rattle.pam_cli.proofs.Folders.{member-at, unread-one}
use Rattle.pam_cli.specs.inner.AccessTables.{AddsTables}
use Rattle.pam_cli.proofs.reading.access.named_access.Goals as goal

pub loop-name-preserved : goal.loop-name-preserved
loop-name-preserved g c =
    let old = c.loop-name.tables in
    let new = c.put_table.new.tables in
    let bytes = c.in_ok-bytes.bytes.items in
    let added = subst (λ (b : List ℕ). AddsTables ((c.as_bytes.result.now, b) ∷ []) old new) c.deref.ensures.value c.in_ok-put_table.ensures in
    let here = subst (λ (p : List ℕ). AddsTables ((p, bytes) ∷ []) old new) c.as_bytes.ensures.value added in
    next_named (g.S.System.told c.args.system.now) (λ n. n.now) c.args.names.now c.loop-name.name-index _ c.loop-name-test.true bytes old new
    c.loop-name.invariant c.in_ok-bytes.ensures here

pub returns-in_err-bytes-clause-error : goal.returns-in_err-bytes-clause-error
returns-in_err-bytes-clause-error g c =
    let names = c.args.names.now in
    let named = member-at (λ s. s.now) names c.loop-name.name-index _ c.loop-name-test.true in
    let given = err_from_is_err_and c.from_residual.result c.from_residual.ensures.1 in
    rw (given.1, given.2) (unread-one (map (λ s. s.now) names) _ c.in_err-bytes.field-0.0 named c.in_err-bytes.ensures)
