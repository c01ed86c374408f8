use Rattle.std.proofs.Common.{◌+◌, ◌++◌, ◌∙◌, ℕ, Bool, List, [], false, true, map, ap, arith, eqb, sym}
use Rattle.pam_released.specs.Lines.{physical_lines, without_start_blanks}
use Rattle.pam_released.specs.Numbered.{numbered_170}
use Rattle.pam_released.specs.inner.Numbered.{line_view, with_front}
use Rattle.pam_released.proofs.AssembledLines.{finished, line_goes, line_gone, line_kept, lines_end}
use Rattle.pam_released.proofs.Assembling.{is_nothing, is_something}
use Rattle.pam_released.proofs.assembly.lines_170.Goals as goal

pub loop-line-preserved-in_ok-push_trimmed : goal.loop-line-preserved-in_ok-push_trimmed
loop-line-preserved-in_ok-push_trimmed c =
    let so_far = c.loop-line.assembly in
    record {
      found =
          ap (λ (r : List ℕ). with_front (map line_view so_far.lines.items)
          (numbered_170 c.ends_in_feed-closed.result (so_far.number + 1) so_far.start r true (physical_lines c.in-Some.after.now))) c.in_ok-push_trimmed.ensures
          ∙ line_goes _ _ _ _ _ _ _ _ _ _ c.in-Some.ensures.value (sym c.goes_on.ensures ∙ c.if-goes_on.true) c.loop-line.invariant.found;
      counted = omega (arith, c.in-Some.ensures.shorter, c.loop-line.invariant.counted);
    }

pub loop-line-preserved-in_ok-keep_line : goal.loop-line-preserved-in_ok-keep_line
loop-line-preserved-in_ok-keep_line c =
    let kept = c.keep_line.new.self in
    record {
      found =
          ap (λ (n : ℕ). with_front (map line_view kept.lines.items)
          (numbered_170 c.ends_in_feed-closed.result n n kept.text.items false (physical_lines c.in-Some.after.now)))
          c.in_ok-keep_line.ensures.number
          ∙ line_kept _ _ _ _ _ _ _ _ _ _ _ _ _ _ c.in_ok-keep_line.ensures.lines c.is_fed_before.ensures
          (c.in_ok-extend_from_slice.ensures.items
          ∙ ap (λ (r : List ℕ). c.loop-line.assembly.text.items ++ r) (c.without_start_blanks-last.ensures ∙ ap without_start_blanks c.before_hash.ensures))
          (is_something _ (ap (λ (n : ℕ). eqb n 0) (sym c.extend_from_slice.new.self.ok.0) ∙ sym c.is_empty.ensures ∙ c.if-not-is_empty.true))
          c.in_ok-keep_line.ensures.text c.in-Some.ensures.value (sym c.goes_on.ensures ∙ c.if-goes_on.false) c.loop-line.invariant.found;
      counted = omega (arith, c.in_ok-keep_line.ensures.number, c.in-Some.ensures.shorter, c.loop-line.invariant.counted);
    }

pub loop-line-preserved : goal.loop-line-preserved
loop-line-preserved c = record {
  found =
      line_gone _ _ _ _ _ _ _ _ _ _ _
      (c.in_ok-extend_from_slice.ensures.items
      ∙ ap (λ (r : List ℕ). c.loop-line.assembly.text.items ++ r) (c.without_start_blanks-last.ensures ∙ ap without_start_blanks c.before_hash.ensures))
      (is_nothing _ (ap (λ (n : ℕ). eqb n 0) (sym c.extend_from_slice.new.self.ok.0) ∙ sym c.is_empty.ensures ∙ c.if-not-is_empty.false))
      c.in-Some.ensures.value
      (sym c.goes_on.ensures ∙ c.if-goes_on.false) c.loop-line.invariant.found;
  counted = omega (arith, c.in-Some.ensures.shorter, c.loop-line.invariant.counted);
}

pub returns : goal.returns
returns c =
    finished _ _ _ _ _ c.finish.ensures (lines_end _ _ _ _ _ _ c.in_default.ensures.value) c.loop-line.invariant.found
    ∙ ap (λ (t : Bool). numbered_170 t 1 1 [] false (physical_lines c.args.source.bytes.now)) c.ends_in_feed-closed.ensures
