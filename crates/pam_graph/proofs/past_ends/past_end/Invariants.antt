-- the codes below the number that pass
use Rattle.std.proofs.Common.{◌≡◌, ◌&&◌}
use Rattle.pam_codes.specs.Set.{is_in}
use Rattle.pam_codes.proofs.CodeByCode.{passed_below}
use Rattle.pam_dispatch.specs.State.{action_of}
use Rattle.pam_graph.specs.PastEnds.{is_past_end}
use Rattle.pam_graph.proofs.past_ends.past_end.Given as goal

abbrev pub invariant-loop-number : goal.invariant-loop-number
invariant-loop-number l = l.codes ≡ passed_below (λ code. is_in code l.allowed && is_past_end l.items_after (action_of l.control code)) l.number
