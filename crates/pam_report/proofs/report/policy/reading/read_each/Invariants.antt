-- the policies so far are read, and the others follow their rules
use Rattle.pam_report.proofs.PolicySteps.{AreRead}
use Rattle.pam_report.proofs.report.policy.reading.read_each.Given as goal

abbrev pub invariant-loop-bytes : goal.invariant-loop-bytes
invariant-loop-bytes l = AreRead l.texts l.policies.items l.before l.bytes-iterator
