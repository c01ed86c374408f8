use Rattle.std.proofs.Common.{◌≡◌, ◌+◌, ◌∙◌, ◌∷◌, ap, arith, length, refl, sym}
use Rattle.pam_text.proofs.TextSteps.{empty_list}
use Rattle.pam_text.specs.inner.Text.{past_comment}
use Rattle.pam_findings.proofs.MisspelledProofs.Offsets.{none}
use Rattle.pam_findings.proofs.misspelled.offsets.next_byte.Goals as goal

pub returns-in_err-byte-clause-text : goal.returns-in_err-byte-clause-text
returns-in_err-byte-clause-text c =
    rw c.from_residual.ensures (none _ _ (sym c.skip_comment-here.ensures.value ∙ empty_list _ c.in_err-byte.ensures.cases))

pub returns-clause-text : goal.returns-clause-text
returns-clause-text c =
    let first = c.args.ahead in
    let here = c.skip_comment-here.result in
    let size : length (past_comment first.rest.now) ≡ length here.rest.now = ap length (sym c.skip_comment-here.ensures.value) in
    c.after_byte.ensures.text first.rest.now first.offset here.offset
    (sym c.skip_comment-here.ensures.value ∙ c.in_ok-byte.ensures.cases.0) refl (omega (arith, size, c.skip_comment-here.ensures.moved))
