use Rattle.std.proofs.Common.{length}
use Rattle.pam_codes.proofs.SetNames.{AreWritten}
use Rattle.pam_codes.proofs.set.CodeSet.write_names.Given as goal

abbrev pub invariant-loop-code : goal.invariant-loop-code
invariant-loop-code g l = AreWritten g.W.Write.contents l.initial.out l.out l.separator l.remaining l.fn.self

abbrev pub decreases-loop-code : goal.decreases-loop-code
decreases-loop-code g l = length l.remaining
