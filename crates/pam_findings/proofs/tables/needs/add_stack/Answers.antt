use Rattle.std.proofs.Common.{arith, map}
use Rattle.pam_findings.specs.tables.inner.Passes.{need_view}
use Rattle.pam_findings.proofs.TablesProofs.Adding.{modules-all, modules-more, modules-none}
use Rattle.pam_findings.proofs.tables.needs.add_stack.Goals as goal

pub loop-index-init : goal.loop-index-init
loop-index-init c = modules-none c.args.kind c.args.stack.now (map need_view c.args.needs.now.items)

pub loop-index-preserved : goal.loop-index-preserved
loop-index-preserved c =
    modules-more c.args.kind c.args.stack.now c.loop-index.index (map need_view c.args.needs.now.items) (map need_view c.loop-index.needs.items)
    (map need_view c.add_number.new.needs.items) c.loop-index.invariant c.in_ok-add_number.ensures

pub returns : goal.returns
returns c =
    modules-all c.args.kind c.args.stack.now c.loop-index.index (map need_view c.args.needs.now.items) (map need_view c.loop-index.needs.items)
    c.items-items.ensures.numbered (omega (arith, c.modules-index-end.ensures.count)) c.loop-index.invariant
