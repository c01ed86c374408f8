use Rattle.std.proofs.Common.{◌≡◌, length}
use Rattle.pam_tables.proofs.GroupSteps.{has_part}
use Rattle.pam_tables.proofs.groups.has_member.Given as goal

abbrev pub invariant-loop-member : goal.invariant-loop-member
invariant-loop-member l = has_part l.user l.rest ≡ has_part l.user l.members

abbrev pub decreases-loop-member : goal.decreases-loop-member
decreases-loop-member l = length l.rest
