use Rattle.std.proofs.Common.{map}
use Rattle.std.proofs.lemmas.Result.{on_ok_weaker}
use Rattle.pam_conf.specs.ItemsOf.{module_text}
use Rattle.pam_findings.specs.tables.inner.Passes.{need_view}
use Rattle.pam_findings.proofs.TablesProofs.Adding.{both-tables}
use Rattle.pam_findings.proofs.tables.needs.add_module.Goals as goal

pub returns : goal.returns
returns c =
    on_ok_weaker c.add_of_time.result
    (both-tables c.args.kind (module_text c.args.module.now) (map need_view c.args.needs.now.items) (map need_view c.add_of_access.new.needs.items)
    (map need_view c.add_of_time.new.needs.items) c.in_ok-add_of_access.ensures)
    c.add_of_time.ensures
