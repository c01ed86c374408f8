use Rattle.std.proofs.Common.{◌∙◌, sym, ap, add-zero, ◌∷◌, ℕ, arith}
use Rattle.pam_text.proofs.TextSteps.{step_none, step_feed, step_plain, empty_list}
use Rattle.pam_text.proofs.text.first_byte.Goals as goal

pub returns-in_err-first-clause-text : goal.returns-in_err-first-clause-text
returns-in_err-first-clause-text c =
    rw c.from_residual.ensures (λ line. step_none _ line (sym c.skip_comment.ensures.value ∙ empty_list _ c.in_err-first.ensures.cases))

pub returns-in-10-clause-text : goal.returns-in-10-clause-text
returns-in-10-clause-text c =
    λ line.
    step_feed _ _ line (sym c.skip_comment.ensures.value ∙ c.in_ok-first.ensures.cases.0 ∙ ap (λ (b : ℕ). b ∷ c.in_ok-first.after.now) c.in-10.is)

pub returns-in_default-clause-text : goal.returns-in_default-clause-text
returns-in_default-clause-text c =
    λ line.
    rw add-zero (step_plain _ _ _ line (sym c.skip_comment.ensures.value ∙ c.in_ok-first.ensures.cases.0) (λ h. omega (arith, h, c.in_default))
    (λ h. omega (arith, h, c.in_default)))
