use Rattle.std.proofs.Common.{◌≡◌, length}
use Rattle.pam_released.specs.tables.Times.{has_past_midnight}
use Rattle.pam_released.proofs.tables.rows.has_past_midnight.Given as goal

abbrev pub invariant-loop-token : goal.invariant-loop-token
invariant-loop-token l = has_past_midnight l.rest ≡ has_past_midnight l.times

abbrev pub decreases-loop-token : goal.decreases-loop-token
decreases-loop-token l = length l.rest
