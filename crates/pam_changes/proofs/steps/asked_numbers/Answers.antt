use Rattle.std.proofs.Common.{◌∙◌, sym}
use Rattle.pam_dispatch.specs.Runs.{answers_of}
use Rattle.pam_dispatch.proofs.Asking.{asked_by-follows}
use Rattle.pam_changes.proofs.Merging.{numbers-end, numbers-more}
use Rattle.pam_changes.proofs.steps.asked_numbers.Goals as goal

pub loop-number-smaller : goal.loop-number-smaller
loop-number-smaller c =
    let asked = sym (c.module.ensures c.args.program.now c.loop-number.invariant.place) ∙ c.in-Some.is in
    asked_by-follows (answers_of c.args.codes.now) _ _ c.in-Some.number c.answer_of.result asked (sym c.answer_of.ensures) c.step_on.ensures.rest

pub loop-number-preserved : goal.loop-number-preserved
loop-number-preserved c =
    let asked = sym (c.module.ensures c.args.program.now c.loop-number.invariant.place) ∙ c.in-Some.is in
    record {
      place = c.step_on.ensures.place;
      numbers = numbers-more (answers_of c.args.codes.now) _ _ c.in-Some.number c.answer_of.result c.loop-number.numbers.items _ _
          asked (sym c.answer_of.ensures) c.step_on.ensures.rest c.in_ok-push.ensures.items c.loop-number.invariant.numbers;
    }

pub returns : goal.returns
returns c =
    numbers-end (answers_of c.args.codes.now) _ c.loop-number.numbers.items _
    (sym (c.module.ensures c.args.program.now c.loop-number.invariant.place) ∙ c.in_default.is) c.loop-number.invariant.numbers
