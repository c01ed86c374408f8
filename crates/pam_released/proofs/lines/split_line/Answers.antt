use Rattle.std.proofs.Common.{◌∙◌, sym}
use Rattle.std.proofs.lemmas.Bool.{eqb-true}
use Rattle.pam_released.proofs.Scanning.{cut_line, last_line, no_lines, some_bytes}
use Rattle.pam_released.proofs.lines.split_line.Goals as goal

pub returns-then-is_empty-clause-value : goal.returns-then-is_empty-clause-value
returns-then-is_empty-clause-value c = no_lines c.args.bytes.now (eqb-true _ _ (sym c.is_empty.ensures ∙ c.if-is_empty.true))

pub returns-then-is_empty-2-clause-value : goal.returns-then-is_empty-2-clause-value
returns-then-is_empty-2-clause-value c =
    last_line _ _ _ _ (some_bytes _ (sym c.is_empty.ensures ∙ c.if-is_empty.false)) c.line_len.ensures.value c.split_at.ensures.front
    c.split_at.ensures.back (eqb-true _ _ (sym c.is_empty-2.ensures ∙ c.if-is_empty-2.true))

pub returns-clause-value : goal.returns-clause-value
returns-clause-value c =
    cut_line _ _ _ _ _ (some_bytes _ (sym c.is_empty.ensures ∙ c.if-is_empty.false)) c.line_len.ensures.value c.split_at.ensures.front
    c.split_at.ensures.back c.split_at-2.ensures.back
