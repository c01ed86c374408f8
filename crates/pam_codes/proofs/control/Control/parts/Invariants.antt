use Rattle.std.proofs.Common.{◌-◌, length}
use Rattle.pam_codes.proofs.Dividing.{ArePartsBefore}
use Rattle.pam_codes.proofs.control.Control.parts.Given as goal

abbrev pub invariant-loop-code : goal.invariant-loop-code
invariant-loop-code l = ArePartsBefore l.self l.remaining l.parts.items

abbrev pub decreases-loop-code : goal.decreases-loop-code
decreases-loop-code l = 31 - length l.parts.items
