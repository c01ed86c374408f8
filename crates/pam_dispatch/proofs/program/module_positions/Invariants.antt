use Rattle.std.proofs.Common.{◌≡◌, ◌++◌, drop}
use Rattle.pam_dispatch.specs.inner.Flat.{positions_from}
use Rattle.pam_dispatch.proofs.program.module_positions.Given as goal

abbrev pub invariant-loop-position : goal.invariant-loop-position
invariant-loop-position l = l.positions.items ++ positions_from l.position (drop l.position l.flat_items) ≡ positions_from 0 l.flat_items
