use Rattle.std.proofs.Common.{List, String, Global, map, string_bytes, subst}
use Rattle.std.proofs.lemmas.Result.{on_ok_weaker}
use Rattle.pam_cli.specs.System.{place_view}
use Rattle.pam_cli.specs.inner.AccessTables.{AddsEntries}
use Rattle.pam_cli.proofs.AccessTables.{all_entries}
use Rattle.pam_cli.proofs.Rising.{in_order}
use Rattle.pam_cli.specs.declared.system.Found.{Found}
use Rattle.pam_cli.proofs.reading.access.put_folder.Goals as goal

pub returns-in_ok-names-in-Folder : goal.returns-in_ok-names-in-Folder
returns-in_ok-names-in-Folder g c =
    let told = g.S.System.told c.args.system.now in
    let folder = place_view c.args.folder in
    let names = c.in_ok-names-in-Folder.names.items in
    let old = c.args.tables.now in
    let new = c.put_entries.new.tables in
    on_ok_weaker c.put_entries.result
    (λ added. all_entries told folder (map string_bytes names) old new
    (subst (λ (f : Found). told.look folder f) c.in-Folder.is c.in_ok-look.ensures)
    c.in_ok-names-in-Folder.ensures.names (in_order string_bytes names c.in_ok-names-in-Folder.ensures.order)
    (subst (λ (ns : List (String Global)). AddsEntries told folder (map string_bytes ns) old new) c.deref.ensures.value added))
    c.put_entries.ensures
