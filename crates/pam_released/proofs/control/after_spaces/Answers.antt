use Rattle.std.proofs.Common.{◌∙◌, ap, arith, sym}
use Rattle.pam_released.specs.Control.{after_spaces}
use Rattle.pam_released.proofs.Assembling.{no_length}
use Rattle.pam_released.proofs.ControlSteps.{space_dropped, space_ends}
use Rattle.pam_released.proofs.WordTexts.{one_longer}
use Rattle.pam_released.proofs.control.after_spaces.Goals as goal

pub returns-then-not-is_space-clause-value : goal.returns-then-not-is_space-clause-value
returns-then-not-is_space-clause-value c =
    sym (c.loop-first.invariant.same ∙ ap after_spaces c.in-Some.ensures.cases.0
    ∙ space_ends c.in-Some.first.now c.in-Some.after.now (sym c.is_space.ensures ∙ c.if-not-is_space.true) ∙ sym c.in-Some.ensures.cases.0)

pub loop-first-preserved : goal.loop-first-preserved
loop-first-preserved c = record {
  same = c.loop-first.invariant.same ∙ ap after_spaces c.in-Some.ensures.cases.0
      ∙ space_dropped c.in-Some.first.now c.in-Some.after.now (sym c.is_space.ensures ∙ c.if-not-is_space.false);
  shorter = omega (arith, one_longer _ _ _ c.in-Some.ensures.cases.0, c.loop-first.invariant.shorter);
}

pub returns-clause-value : goal.returns-clause-value
returns-clause-value c =
    sym (c.loop-first.invariant.same ∙ ap after_spaces (no_length _ c.in_default.ensures.cases) ∙ sym (no_length _ c.in_default.ensures.cases))
