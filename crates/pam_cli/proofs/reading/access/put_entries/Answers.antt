use Rattle.std.proofs.Common.{Global, List, String, ℕ, string_bytes, subst}
use Rattle.pam_cli.specs.System.{place_view}
use Rattle.pam_cli.specs.inner.AccessTables.{AddsEntry}
use Rattle.pam_cli.proofs.AccessTables.{next_entry}
use Rattle.pam_cli.proofs.reading.access.put_entries.Goals as goal

pub loop-name-preserved : goal.loop-name-preserved
loop-name-preserved g c =
    let told = g.S.System.told c.args.system.now in
    let folder = place_view c.args.folder in
    let old = c.loop-name.tables in
    let new = c.put_entry.new.tables in
    let added = subst (λ (n : List ℕ). AddsEntry told folder n old new) c.as_str.ensures.value c.in_ok-put_entry.ensures in
    next_entry told folder string_bytes c.args.names.now c.loop-name.name-index _ c.loop-name-test.true c.args.tables.now old new c.loop-name.invariant
    (subst (λ (s : String Global). AddsEntry told folder (string_bytes s) old new) c.name-item.is added)
