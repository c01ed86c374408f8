-- no code so far jumps past the end
use Rattle.std.proofs.Common.{◌≡◌, ◌<◌, ◌&&◌, false, ℕ}
use Rattle.pam_codes.specs.Set.{is_in}
use Rattle.pam_dispatch.specs.State.{action_of}
use Rattle.pam_graph.specs.PastEnds.{is_past_end}
use Rattle.pam_findings.proofs.stack.past_end.can_pass.Given as goal

abbrev pub invariant-loop-number : goal.invariant-loop-number
invariant-loop-number l = (code : ℕ) → code < l.number → (is_in code l.codes && is_past_end l.items_after (action_of l.control code)) ≡ false
