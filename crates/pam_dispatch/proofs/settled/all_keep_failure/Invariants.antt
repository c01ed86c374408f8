-- the actions of the codes so far leave a failed stack as it is
use Rattle.std.proofs.Common.{ℕ, ◌<◌, IsTrue}
use Rattle.pam_dispatch.specs.State.{action_of}
use Rattle.pam_dispatch.specs.Settled.{keeps_failure}
use Rattle.pam_dispatch.proofs.settled.all_keep_failure.Given as goal

abbrev pub invariant-loop-number : goal.invariant-loop-number
invariant-loop-number l = (code : ℕ) → code < l.number → IsTrue (keeps_failure (action_of l.control code))
