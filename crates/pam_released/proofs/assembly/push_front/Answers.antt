use Rattle.pam_released.proofs.Assembling.{front_pushed, no_length, nothing_gone}
use Rattle.pam_released.proofs.assembly.push_front.Goals as goal

pub returns-in_default : goal.returns-in_default
returns-in_default c = nothing_gone _ _ _ c.without_end_blanks.ensures (no_length _ c.in_default.ensures.cases)

pub returns : goal.returns
returns c =
    front_pushed _ _ _ _ _ _ _ c.without_end_blanks.ensures c.in-Some.ensures.cases.0 c.in_ok-extend_from_slice.ensures.items
    c.in_ok-push.ensures.items
