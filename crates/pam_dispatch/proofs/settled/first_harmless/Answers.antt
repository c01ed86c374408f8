use Rattle.std.proofs.Common.{arith, drop, subst, sym}
use Rattle.pam_dispatch.specs.inner.Settled.{KeepFailure}
use Rattle.pam_dispatch.proofs.PositionTables.{item-before}
use Rattle.pam_dispatch.proofs.SettledRuns.{none-kept, one-kept}
use Rattle.pam_dispatch.proofs.settled.first_harmless.Goals as goal

pub loop-position-init : goal.loop-position-init
loop-position-init c = record { within = omega arith; harmless = none-kept c.args.flat_items.now }

pub loop-position-preserved : goal.loop-position-preserved
loop-position-preserved c =
    let ts = c.args.flat_items.now in
    let position = c.loop-position.position in
    let e = c.index-flat_items-position.result in
    let i = c.loop-position.invariant in
    let here = item-before ts position e c.loop-position-test.true i.within c.index-flat_items-position.is in
    record {
      within = omega arith;
      harmless = subst KeepFailure (sym here) (one-kept e (drop position ts) (c.is_harmless.ensures c.if-is_harmless.true) i.harmless);
    }
