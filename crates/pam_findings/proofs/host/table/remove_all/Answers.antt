use Rattle.std.proofs.Common.{refl}
use Rattle.pam_findings.proofs.HostProofs.Removing.{removes-end, removes-more, removes-start}
use Rattle.pam_findings.proofs.host.table.remove_all.Goals as goal

pub loop-spot-init : goal.loop-spot-init
loop-spot-init c = removes-start c.args.spots.now c.args.table.now

pub loop-spot-preserved : goal.loop-spot-preserved
loop-spot-preserved c =
    removes-more c.args.spots.now c.loop-spot.spot-index _ _ c.args.table.now c.loop-spot.table c.remove.new.table
    c.loop-spot-test.true refl c.loop-spot.invariant c.remove.ensures

pub returns : goal.returns
returns c =
    removes-end c.args.spots.now c.loop-spot.spot-index c.args.table.now c.loop-spot.table c.loop-spot-test.false c.loop-spot.invariant
