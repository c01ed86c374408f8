use Rattle.std.proofs.Common.{◌∙◌, ◌-◌, ◌+◌, ◌<◌, arith, sym}
use Rattle.pam_released.proofs.Assembling.{fed_piece, full_piece, is_nothing, is_something, last_piece}
use Rattle.pam_released.proofs.assembly.split_piece.Goals.{else-used-lt-MOST_BYTES-via-then-used-lt-MOST_BYTES+else-len-used}
use Rattle.pam_released.proofs.assembly.split_piece.Goals.{else-used-lt-MOST_BYTES-via-else-used-lt-MOST_BYTES}
use Rattle.pam_released.proofs.assembly.split_piece.Goals as goal

pub returns-then-len-used-clause-value : goal.returns-then-len-used-clause-value
returns-then-len-used-clause-value c =
    full_piece c.args.bytes.now _ _ c.args.used c.line_len-len.result (1023 - c.args.used) c.line_len-len.ensures.value
    (omega (arith, c.if-used-lt-MOST_BYTES.true, c.if-len-used.true)) (omega (arith, c.if-used-lt-MOST_BYTES.true))
    (omega (arith, c.if-used-lt-MOST_BYTES.true)) c.split_at.ensures.front c.split_at.ensures.back

pub returns-then-is_empty-2-clause-value : goal.returns-then-is_empty-2-clause-value
returns-then-is_empty-2-clause-value c =
    let fits : c.args.used < 1023 → c.args.used + c.line_len-len.result < 1023 = elim c.else-used-lt-MOST_BYTES.branch [
      | else-used-lt-MOST_BYTES-via-then-used-lt-MOST_BYTES+else-len-used w ↦ λ low. omega (arith, w.if-len-used.false, low)
      | else-used-lt-MOST_BYTES-via-else-used-lt-MOST_BYTES w ↦ λ low. absurd (omega (arith, w.if-used-lt-MOST_BYTES.false, low))
    ] in
    last_piece c.args.bytes.now _ _ c.args.used c.line_len-len.result c.line_len-len.ensures.value fits
    (is_something _ (sym c.is_empty.ensures ∙ c.if-is_empty.false)) c.split_at-2.ensures.front c.split_at-2.ensures.back
    (is_nothing _ (sym c.is_empty-2.ensures ∙ c.if-is_empty-2.true))

pub returns-clause-value : goal.returns-clause-value
returns-clause-value c =
    let fits : c.args.used < 1023 → c.args.used + c.line_len-len.result < 1023 = elim c.else-used-lt-MOST_BYTES.branch [
      | else-used-lt-MOST_BYTES-via-then-used-lt-MOST_BYTES+else-len-used w ↦ λ low. omega (arith, w.if-len-used.false, low)
      | else-used-lt-MOST_BYTES-via-else-used-lt-MOST_BYTES w ↦ λ low. absurd (omega (arith, w.if-used-lt-MOST_BYTES.false, low))
    ] in
    fed_piece c.args.bytes.now _ _ _ c.args.used c.line_len-len.result c.line_len-len.ensures.value fits c.split_at-2.ensures.front
    c.split_at-2.ensures.back (is_something _ (sym c.is_empty-2.ensures ∙ c.if-is_empty-2.false)) c.split_at-3.ensures.back
