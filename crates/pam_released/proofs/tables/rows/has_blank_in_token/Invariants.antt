use Rattle.std.proofs.Common.{◌≡◌, length}
use Rattle.pam_released.specs.tables.Access.{has_blank_in_token}
use Rattle.pam_released.proofs.tables.rows.has_blank_in_token.Given as goal

abbrev pub invariant-loop-text : goal.invariant-loop-text
invariant-loop-text l = has_blank_in_token l.separators.bytes.now l.rest ≡ has_blank_in_token l.separators.bytes.now l.list

abbrev pub decreases-loop-text : goal.decreases-loop-text
decreases-loop-text l = length l.rest
