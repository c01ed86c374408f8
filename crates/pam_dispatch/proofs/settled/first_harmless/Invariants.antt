-- the items from the position on leave a failed stack as it is
use Rattle.std.proofs.Common.{◌≤◌, drop, length}
use Rattle.pam_dispatch.specs.inner.Settled.{KeepFailure}
use Rattle.pam_dispatch.proofs.settled.first_harmless.Given as goal

abbrev pub invariant-loop-position : goal.invariant-loop-position
invariant-loop-position l = record {
  within : l.position ≤ length l.flat_items;
  harmless : KeepFailure (drop l.position l.flat_items);
}

abbrev pub decreases-loop-position : goal.decreases-loop-position
decreases-loop-position l = l.position
