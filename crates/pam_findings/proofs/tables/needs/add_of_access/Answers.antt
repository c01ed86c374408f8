use Rattle.std.proofs.Common.{◌∙◌, map, sym}
use Rattle.std.proofs.lemmas.Result.{on_ok_weaker}
use Rattle.pam_conf.specs.ItemsOf.{module_text}
use Rattle.pam_findings.specs.tables.inner.Passes.{need_view}
use Rattle.pam_findings.proofs.TablesProofs.Adding.{both-access, no-access}
use Rattle.pam_findings.proofs.tables.needs.add_of_access.Goals as goal

pub returns-then-not-is_access_reader : goal.returns-then-not-is_access_reader
returns-then-not-is_access_reader c =
    no-access (module_text c.args.module.now) (map need_view c.args.needs.now.items) (sym c.is_access_reader.ensures ∙ c.if-not-is_access_reader.true)

pub returns : goal.returns
returns c =
    on_ok_weaker c.add_access.result
    (both-access (module_text c.args.module.now) (map need_view c.args.needs.now.items) (map need_view c.add_groups.new.needs.items)
    (map need_view c.add_access.new.needs.items) (sym c.is_access_reader.ensures ∙ c.if-not-is_access_reader.false) c.in_ok-add_groups.ensures)
    c.add_access.ensures
