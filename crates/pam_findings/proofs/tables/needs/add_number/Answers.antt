use Rattle.std.proofs.Common.{map}
use Rattle.std.proofs.lemmas.Result.{on_ok_weaker}
use Rattle.pam_findings.specs.tables.inner.Passes.{need_view}
use Rattle.pam_findings.proofs.TablesProofs.Adding.{at-module, at-no-module}
use Rattle.pam_findings.proofs.tables.needs.add_number.Goals as goal

pub returns-in-Some : goal.returns-in-Some
returns-in-Some c =
    on_ok_weaker c.add_module.result
    (at-module _ c.module.result c.in-Some.module c.args.stack.now c.args.number c.args.kind (map need_view c.args.needs.now.items)
    (map need_view c.add_module.new.needs.items) c.module.ensures.module c.in-Some.is)
    c.add_module.ensures

pub returns-in-None : goal.returns-in-None
returns-in-None c =
    at-no-module _ c.module.result c.args.stack.now c.args.number c.args.kind (map need_view c.args.needs.now.items) c.module.ensures.module c.in-None.is
