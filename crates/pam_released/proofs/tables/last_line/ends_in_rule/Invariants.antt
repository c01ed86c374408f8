use Rattle.std.proofs.Common.{◌≡◌, false, length}
use Rattle.pam_released.proofs.TablesProofs.LastLine.{left}
use Rattle.pam_released.proofs.tables.last_line.ends_in_rule.Given as goal

abbrev pub invariant-loop-line : goal.invariant-loop-line
invariant-loop-line l = left l.is_filled l.rest ≡ left false l.bytes

abbrev pub decreases-loop-line : goal.decreases-loop-line
decreases-loop-line l = length l.rest
