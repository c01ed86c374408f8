use Rattle.pam_findings.specs.tables.Tables.{tables_view}
use Rattle.pam_findings.proofs.TablesProofs.Putting.{needs-end, needs-more, needs-start}
use Rattle.pam_findings.proofs.tables.findings.put_needs.Goals as goal

pub loop-need-init : goal.loop-need-init
loop-need-init c = needs-start (tables_view c.args.tables.now) c.args.needs.now c.args.found.now

pub loop-need-preserved : goal.loop-need-preserved
loop-need-preserved c =
    needs-more (tables_view c.args.tables.now) c.args.needs.now c.loop-need.need-index c.need-item.result _ c.args.found.now c.loop-need.found
    c.put_need.new.found c.loop-need-test.true c.need-item.is c.loop-need.invariant c.in_ok-put_need.ensures

pub returns : goal.returns
returns c =
    needs-end (tables_view c.args.tables.now) c.args.needs.now c.loop-need.need-index c.args.found.now c.loop-need.found
    c.loop-need-test.false c.loop-need.invariant
