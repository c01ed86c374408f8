use Rattle.std.proofs.Common.{arith}
use Rattle.std.proofs.lemmas.Bool.{ne_eqb}
use Rattle.pam_released.proofs.Assembling.{no_length}
use Rattle.pam_released.proofs.WordTexts.{inside_byte, inside_closed, inside_end, inside_escaped, no_backslash, no_bracket, nothing_after}
use Rattle.pam_released.proofs.WordTexts.{nothing_before, one_longer}
use Rattle.pam_released.proofs.texts.split_inside.Goals.{in_default-split_first-via-in-Some-split_first+then-first-eq92+else-next-eq93}
use Rattle.pam_released.proofs.texts.split_inside.Goals.{in_default-split_first-via-in-Some-split_first+else-first-eq92}
use Rattle.pam_released.proofs.texts.split_inside.Goals.{in_default-split_first-via-in_default-split_first}
use Rattle.pam_released.proofs.texts.split_inside.Goals as goal

pub loop-first-init : goal.loop-first-init
loop-first-init c = record { read = nothing_before c.args.feed.now _ c.args.bytes.now c.new-text.ensures.items; shorter = omega arith }

pub returns-then-first-eq93-clause-value : goal.returns-then-first-eq93-clause-value
returns-then-first-eq93-clause-value c = inside_closed c.args.feed.now _ _ _ _ _ c.in-Some.ensures.cases.0 c.if-first-eq93.true c.loop-first.invariant.read

pub loop-first-preserved-then-next-eq93 : goal.loop-first-preserved-then-next-eq93
loop-first-preserved-then-next-eq93 c = record {
  read =
      inside_escaped c.args.feed.now _ _ _ _ _ _ _ _ c.in-Some.ensures.cases.0 c.in-Some-split_first.ensures.cases.0 c.if-first-eq92.true c.if-next-eq93.true
      c.in_ok-push-in-Some-split_first.ensures.items c.loop-first.invariant.read;
  shorter =
      omega (arith, one_longer _ _ _ c.in-Some.ensures.cases.0, one_longer _ _ _ c.in-Some-split_first.ensures.cases.0, c.loop-first.invariant.shorter);
}

pub loop-first-preserved : goal.loop-first-preserved
loop-first-preserved c = record {
  read =
      inside_byte c.args.feed.now _ _ _ _ c.in-Some.first.now _ c.in-Some.ensures.cases.0 (ne_eqb c.in-Some.first.now 93 c.if-first-eq93.false)
      (elim c.in_default-split_first.branch [
        | in_default-split_first-via-in-Some-split_first+then-first-eq92+else-next-eq93 w ↦
            no_bracket _ _ _ _ w.in-Some-split_first.ensures.cases.0 w.if-next-eq93.false
        | in_default-split_first-via-in-Some-split_first+else-first-eq92 w ↦ no_backslash _ _ w.if-first-eq92.false
        | in_default-split_first-via-in_default-split_first w ↦ nothing_after _ _ w.in_default-split_first.ensures.cases
      ])
      c.in_ok-push-in_default-split_first.ensures.items c.loop-first.invariant.read;
  shorter = omega (arith, one_longer _ _ _ c.in-Some.ensures.cases.0, c.loop-first.invariant.shorter);
}

pub returns-clause-value : goal.returns-clause-value
returns-clause-value c =
    inside_end c.args.feed.now _ _ _ _ (no_length _ c.in_default.ensures.cases) c.in_ok-extend_from_slice.ensures.items c.loop-first.invariant.read
