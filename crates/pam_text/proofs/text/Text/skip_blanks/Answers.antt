use Rattle.std.proofs.Common.{arith, sym, ◌∙◌}
use Rattle.pam_text.proofs.FilledLines.{past_byte, past_hash, feeds_fit}
use Rattle.pam_text.proofs.text.Text.skip_blanks.Goals as goal

pub loop-first-preserved-then-is_blank_or_feed : goal.loop-first-preserved-then-is_blank_or_feed
loop-first-preserved-then-is_blank_or_feed c = record {
  lines = past_byte c.loop-first.line _ _ c.in-Some.after.now _ c.in-Some.ensures.cases.0 c.loop-first.invariant.lines
      (sym c.is_blank_or_feed.ensures ∙ c.if-is_blank_or_feed.true) _ c.feed_count-line.ensures;
  counted = omega (arith, c.loop-first.invariant.counted, c.in-Some.ensures, feeds_fit _ _ c.feed_count-line.ensures);
  shorter = omega (arith, c.loop-first.invariant.shorter, c.in-Some.ensures);
}

pub loop-first-preserved : goal.loop-first-preserved
loop-first-preserved c = record {
  lines = past_hash c.loop-first.line _ _ c.in-Some.after.now _ c.in-Some.ensures.cases.0 c.loop-first.invariant.lines c.if-first-eq35.true _ _
      c.comment_len.ensures.value c.split_at.ensures.back;
  counted = omega (arith, c.loop-first.invariant.counted, c.in-Some.ensures, c.split_at.ensures);
  shorter = omega (arith, c.loop-first.invariant.shorter, c.in-Some.ensures, c.split_at.ensures);
}
