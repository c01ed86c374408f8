use Rattle.std.proofs.Common.{◌∙◌, arith, sym}
use Rattle.pam_tables.proofs.TimesProofs.LogicSteps.{blank_next}
use Rattle.pam_tables.proofs.TimesProofs.OnePassSteps.{blank_before, blank_onward}
use Rattle.pam_tables.proofs.times.logic.skip_blanks.Goals as goal

pub loop-first-preserved : goal.loop-first-preserved
loop-first-preserved c = record {
  signs = blank_next _ c.in-Some.first.now c.in-Some.after.now c.in-Some.ensures.cases.0
      (sym c.is_blank.ensures ∙ c.if-not-is_blank.false) ∙ c.loop-first.invariant.signs;
  before = blank_before _ c.in-Some.first.now c.in-Some.after.now c.in-Some.ensures.cases.0
      (sym c.is_blank.ensures ∙ c.if-not-is_blank.false) ∙ c.loop-first.invariant.before;
  onward = blank_onward _ c.in-Some.first.now c.in-Some.after.now c.in-Some.ensures.cases.0
      (sym c.is_blank.ensures ∙ c.if-not-is_blank.false) ∙ c.loop-first.invariant.onward;
  bound = omega (arith, c.loop-first.invariant.bound, c.in-Some.ensures);
}
