use Rattle.std.proofs.Common.{refl}
use Rattle.pam_findings.specs.host.inner.Table.{with_stack}
use Rattle.pam_findings.proofs.HostProofs.Passes.{puts-end, puts-more, puts-start, settles-stack}
use Rattle.pam_findings.proofs.host.table.put_stack_at_all.Goals as goal

pub loop-spot-init : goal.loop-spot-init
loop-spot-init c = puts-start (with_stack c.args.service c.args.kind) c.args.spots.now c.args.table.now

pub loop-spot-preserved : goal.loop-spot-preserved
loop-spot-preserved c =
    puts-more (with_stack c.args.service c.args.kind) c.args.spots.now c.loop-spot.spot-index _ _ c.args.table.now c.loop-spot.table c.put_stack.new.table
    (settles-stack c.args.service c.args.kind) c.loop-spot-test.true refl c.loop-spot.invariant c.in_ok-put_stack.ensures

pub returns : goal.returns
returns c =
    puts-end (with_stack c.args.service c.args.kind) c.args.spots.now c.loop-spot.spot-index c.args.table.now c.loop-spot.table
    c.loop-spot-test.false c.loop-spot.invariant
