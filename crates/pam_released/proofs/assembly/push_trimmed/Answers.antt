use Rattle.std.proofs.Common.{◌∙◌, sym}
use Rattle.pam_released.proofs.Assembling.{blank_front, is_nothing, is_something, no_length, nothing_trimmed, trimmed_pushed}
use Rattle.pam_released.proofs.assembly.push_trimmed.Goals as goal

pub returns-in_default : goal.returns-in_default
returns-in_default c = nothing_trimmed _ _ _ c.without_end_blanks.ensures (no_length _ c.in_default.ensures.cases)

pub returns-then-is_empty : goal.returns-then-is_empty
returns-then-is_empty c =
    blank_front _ _ _ _ _ _ c.without_end_blanks.ensures c.in-Some.ensures.cases.0 c.without_start_blanks-front.ensures
    (is_nothing _ (sym c.is_empty.ensures ∙ c.if-is_empty.true))

pub returns : goal.returns
returns c =
    trimmed_pushed _ _ _ _ _ _ _ _ c.without_end_blanks.ensures c.in-Some.ensures.cases.0 c.without_start_blanks-front.ensures
    (is_something _ (sym c.is_empty.ensures ∙ c.if-is_empty.false)) c.in_ok-extend_from_slice.ensures.items c.in_ok-push.ensures.items
