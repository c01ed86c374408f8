use Rattle.std.proofs.Common.{refl}
use Rattle.pam_findings.proofs.TablesProofs.Putting.{puts-end, puts-more, puts-start}
use Rattle.pam_findings.proofs.tables.findings.put_all.Goals as goal

pub loop-finding-init : goal.loop-finding-init
loop-finding-init c = puts-start c.args.findings.now c.args.found.now

pub loop-finding-preserved : goal.loop-finding-preserved
loop-finding-preserved c =
    puts-more c.args.findings.now c.loop-finding.finding-index _ _ c.args.found.now c.loop-finding.found c.put.new.found
    c.loop-finding-test.true refl c.loop-finding.invariant c.in_ok-put.ensures

pub returns : goal.returns
returns c =
    puts-end c.args.findings.now c.loop-finding.finding-index c.args.found.now c.loop-finding.found c.loop-finding-test.false c.loop-finding.invariant
