use Rattle.std.proofs.Common.{arith}
use Rattle.pam_findings.proofs.StackProofs.MarkLists.{set-mark}
use Rattle.pam_findings.proofs.stack.marks.mark.Goals as goal

pub returns : goal.returns
returns c n from = set-mark c.args.marks.now c.args.number n (omega (arith, c.told-marks)) c.requires.first c.requires.last from
