use Rattle.std.proofs.Common.{◌∙◌, sym}
use Rattle.pam_facts.proofs.HeadSteps.{argument, class_found, nothing_left}
use Rattle.pam_facts.proofs.head.read_head.Goals as goal

pub returns-in_err-first : goal.returns-in_err-first
returns-in_err-first c = rw c.from_residual.ensures (sym (nothing_left _ 2 c.in_err-first.ensures))

pub returns-in-Some : goal.returns-in-Some
returns-in-Some c = class_found _ _ _ c.in_ok-first.ensures 2 _ c.in-Some.ensures

pub returns-in-None : goal.returns-in-None
returns-in-None c = c.head_after.ensures ∙ argument _ _ _ c.in_ok-first.ensures 1 c.in-None.ensures
