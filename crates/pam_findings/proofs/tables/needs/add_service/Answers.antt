use Rattle.std.proofs.Common.{map}
use Rattle.std.proofs.lemmas.Result.{on_ok_weaker}
use Rattle.pam_findings.specs.tables.inner.Passes.{need_view}
use Rattle.pam_findings.proofs.TablesProofs.Adding.{four-kinds}
use Rattle.pam_findings.proofs.tables.needs.add_service.Goals as goal

pub returns : goal.returns
returns c =
    on_ok_weaker c.add_kind-4.result
    (four-kinds c.args.rules.now c.args.service.now (map need_view c.args.needs.now.items) (map need_view c.add_kind.new.needs.items)
    (map need_view c.add_kind-2.new.needs.items) (map need_view c.add_kind-3.new.needs.items) (map need_view c.add_kind-4.new.needs.items)
    c.in_ok-add_kind.ensures c.in_ok-add_kind-2.ensures c.in_ok-add_kind-3.ensures)
    c.add_kind-4.ensures
