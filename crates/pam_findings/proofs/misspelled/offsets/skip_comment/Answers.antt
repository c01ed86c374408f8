use Rattle.std.proofs.Common.{◌∙◌, sym, ap, ℕ, drop}
use Rattle.std.proofs.lemmas.Bool.{eqb-true}
use Rattle.pam_text.proofs.TextSteps.{past_comment-yes, past_comment-no, past_comment-empty}
use Rattle.pam_findings.proofs.misspelled.offsets.skip_comment.Goals as goal
use Rattle.pam_findings.proofs.misspelled.offsets.skip_comment.Goals.{then-is_empty-via-then-is_empty, then-is_empty-via-else-is_empty+then-ahead-ne35}

pub returns-then-is_empty-clause-value : goal.returns-then-is_empty-clause-value
returns-then-is_empty-clause-value c = elim c.then-is_empty.branch [
  | then-is_empty-via-then-is_empty w ↦ sym (past_comment-empty c.args.ahead.rest.now (eqb-true _ _ (sym c.is_empty.ensures ∙ w.if-is_empty.true)))
  | then-is_empty-via-else-is_empty+then-ahead-ne35 w ↦ sym (past_comment-no c.args.ahead.rest.now w.if-ahead-ne35.true)
]

pub returns-clause-value : goal.returns-clause-value
returns-clause-value c =
    c.split_at.ensures.back
    ∙ ap (λ (n : ℕ). drop n c.args.ahead.rest.now) c.line_len-len.ensures.value
    ∙ sym (past_comment-yes c.args.ahead.rest.now c.if-ahead-ne35.false)
