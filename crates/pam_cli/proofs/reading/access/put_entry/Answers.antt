use Rattle.std.proofs.Common.{◌∙◌, ap, subst, sym}
use Rattle.std.proofs.lemmas.Result.{on_ok_weaker}
use Rattle.pam_cli.specs.System.{PlaceText, place_view, with_path}
use Rattle.pam_cli.specs.inner.AccessTables.{AddsFile}
use Rattle.pam_cli.specs.AccessTables.{is_table_name}
use Rattle.pam_cli.proofs.AccessTables.{one_table}
use Rattle.pam_cli.proofs.reading.access.put_entry.Goals as goal

pub returns : goal.returns
returns g c =
    let told = g.S.System.told c.args.system.now in
    let folder = place_view c.args.folder in
    let name = c.args.name.now in
    let old = c.args.tables.now in
    let new = c.put_file.new.tables in
    let named = sym (c.is_table_name.ensures ∙ ap is_table_name c.as_bytes.ensures.value) ∙ c.if-not-is_table_name.false in
    let place = c.with_path.ensures ∙ ap (with_path folder) (c.as_str.ensures ∙ c.in_ok-path.ensures) in
    on_ok_weaker c.put_file.result
    (λ added. one_table told folder name old new named (subst (λ (p : PlaceText). AddsFile told p old new) place added))
    c.put_file.ensures
