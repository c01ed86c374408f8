use Rattle.std.proofs.Common.{◌-◌, ◌<◌, ◌∙◌, ap, sym, subst, arith, length}
use Rattle.std.proofs.lemmas.List.{get_or_default}
use Rattle.pam_dispatch.specs.declared.state.State.{State}
use Rattle.pam_dispatch.specs.Decision.{decision_of}
use Rattle.pam_dispatch.specs.Flat.{modules_of, rest_of}
use Rattle.pam_dispatch.specs.Runs.{AsksRise, Runs, answers_of}
use Rattle.pam_dispatch.proofs.Asking.{AsksRise-step, asked_by-follows, final_state-end, final_state-follows}
use Rattle.pam_dispatch.proofs.Numbering.{AsksRise-lower}
use Rattle.pam_dispatch.proofs.program.Program.decision_by.Goals as goal

pub overflow_sub-number : goal.overflow_sub-number
overflow_sub-number c =
    let l = c.loop-number in
    let asked = sym (c.module.ensures c.args.self.now l.invariant.place) ∙ c.in-Some.is in
    let range = AsksRise-step 0 _ _ c.in-Some.number l.invariant.rise asked in
    omega (arith, range.0)

pub bounds-codes-number : goal.bounds-codes-number
bounds-codes-number c =
    let l = c.loop-number in
    let asked = sym (c.module.ensures c.args.self.now l.invariant.place) ∙ c.in-Some.is in
    let range = AsksRise-step 0 _ _ c.in-Some.number l.invariant.rise asked in
    omega (arith, range.0, range.1, c.requires)

pub loop-number-smaller : goal.loop-number-smaller
loop-number-smaller c =
    let l = c.loop-number in
    let asked = sym (c.module.ensures c.args.self.now l.invariant.place) ∙ c.in-Some.is in
    let range = AsksRise-step 0 _ _ c.in-Some.number l.invariant.rise asked in
    let code = c.index-codes-number in
    let within : c.in-Some.number - 1 < length c.args.codes.now = omega (arith, range.0, range.1, c.requires) in
    let is = get_or_default c.args.codes.now (c.in-Some.number - 1) 0 code.result within ∙ sym code.is in
    asked_by-follows (answers_of c.args.codes.now) _ _ c.in-Some.number code.result asked is c.step_by.ensures.rest

pub loop-number-preserved : goal.loop-number-preserved
loop-number-preserved c =
    let l = c.loop-number in
    let step = c.step_by.ensures in
    let asked = sym (c.module.ensures c.args.self.now l.invariant.place) ∙ c.in-Some.is in
    let range = AsksRise-step 0 _ _ c.in-Some.number l.invariant.rise asked in
    let code = c.index-codes-number in
    let within : c.in-Some.number - 1 < length c.args.codes.now = omega (arith, range.0, range.1, c.requires) in
    let is = get_or_default c.args.codes.now (c.in-Some.number - 1) 0 code.result within ∙ sym code.is in
    record {
      place = step.place;
      rise = subst (λ (r : Runs). AsksRise 0 (modules_of c.args.self.now) r) (sym step.rest)
          (AsksRise-lower 0 c.in-Some.number _ _ (omega arith) (range.2 code.result));
      same = final_state-follows (answers_of c.args.codes.now) _ _ c.in-Some.number code.result asked is step.rest ∙ l.invariant.same;
    }

pub returns : goal.returns
returns c =
    let l = c.loop-number in
    let end = sym (c.module.ensures c.args.self.now l.invariant.place) ∙ c.in_default.is in
    c.decision.ensures
    ∙ ap (λ (s : State). decision_of s) (sym (final_state-end (answers_of c.args.codes.now) (rest_of c.args.self.now l.place) end) ∙ l.invariant.same)
