use Rattle.std.proofs.Common.{◌∙◌, List, ap, arith, sym, subst}
use Rattle.std.proofs.lemmas.Option.{get_or_from_slice_get}
use Rattle.pam_codes.specs.declared.action.Action.{Action}
use Rattle.pam_codes.specs.declared.action.Action.TheVariants.{Ignore}
use Rattle.pam_dispatch.specs.declared.place.Place.{Place}
use Rattle.pam_dispatch.specs.declared.state.State.{State}
use Rattle.pam_dispatch.specs.declared.step.Outcome.{Outcome}
use Rattle.pam_dispatch.specs.Decision.{decision_of}
use Rattle.pam_dispatch.specs.Flat.{IsPlaceOf, rest_of}
use Rattle.pam_dispatch.specs.Runs.{answers_of, next_ask}
use Rattle.pam_dispatch.specs.State.{action_of}
use Rattle.pam_dispatch.proofs.Asking.{asked_by-follows, final_state-end, final_state-follows, number-next_ask, outcome_in-next_ask}
use Rattle.pam_report.proofs.TraceSteps.{answer_read, asked-ends, asked-goes_on, asked-is, from_one, rises_on, to_last}
use Rattle.pam_report.specs.ReplyViews.{asked_view}
use Rattle.pam_report.proofs.report.trace.Trace.of.Goals as goal

pub overflow_sub-code : goal.overflow_sub-code
overflow_sub-code c =
    let asked = sym (c.module.ensures c.args.program.now c.loop-number.invariant.place) ∙ c.in-Some.is in
    from_one _ _ _ c.loop-number.invariant.rise asked

pub bounds-codes-number : goal.bounds-codes-number
bounds-codes-number c =
    let asked = sym (c.module.ensures c.args.program.now c.loop-number.invariant.place) ∙ c.in-Some.is in
    let low = from_one _ _ _ c.loop-number.invariant.rise asked in
    let high = to_last _ _ _ c.loop-number.invariant.rise asked in
    omega (arith, low, high, c.requires)

pub control-requires-clause-first : goal.control-requires-clause-first
control-requires-clause-first c =
    let asked = sym (c.module.ensures c.args.program.now c.loop-number.invariant.place) ∙ c.in-Some.is in
    from_one _ _ _ c.loop-number.invariant.rise asked

pub control-requires-clause-last : goal.control-requires-clause-last
control-requires-clause-last c =
    let asked = sym (c.module.ensures c.args.program.now c.loop-number.invariant.place) ∙ c.in-Some.is in
    to_last _ _ _ c.loop-number.invariant.rise asked

pub loop-number-smaller : goal.loop-number-smaller
loop-number-smaller c =
    let l = c.loop-number in
    let asked = sym (c.module.ensures c.args.program.now l.invariant.place) ∙ c.in-Some.is in
    let code = c.index-codes-number in
    let is = answer_read _ _ _ l.invariant.rise asked c.args.codes.now code.result c.requires code.is in
    let follows = ap (λ (p : Place). rest_of c.args.program.now p) c.place-place.ensures ∙ c.step-step.ensures.rest in
    asked_by-follows (answers_of c.args.codes.now) _ _ c.in-Some.number code.result asked is follows

pub loop-number-preserved : goal.loop-number-preserved
loop-number-preserved c =
    let l = c.loop-number in
    let step = c.step-step.ensures in
    let answers = answers_of c.args.codes.now in
    let asked = sym (c.module.ensures c.args.program.now l.invariant.place) ∙ c.in-Some.is in
    let code = c.index-codes-number in
    let is = answer_read _ _ _ l.invariant.rise asked c.args.codes.now code.result c.requires code.is in
    let follows = ap (λ (p : Place). rest_of c.args.program.now p) c.place-place.ensures ∙ step.rest in
    let ask = next_ask (rest_of c.args.program.now l.place) in
    let control = ap (λ (x : List Action). action_of x code.result) (c.control.ensures.asked l.place l.invariant.place asked) in
    let action = sym (get_or_from_slice_get _ code.result _ Ignore c.action.ensures.of_code) ∙ sym control in
    let outcome = c.outcome.ensures ∙ sym step.outcome ∙ outcome_in-next_ask _ c.in-Some.number code.result asked in
    let state = ap (λ (o : Outcome). o.state) outcome in
    let path = c.in_ok-from_slice.ensures.items ∙ c.path_at.ensures in
    let same = asked-is c.args.stack.now answers ask c.in-Some.number code.result _ _ _ (number-next_ask _ _ asked) is path action state in
    record {
      place = subst (λ (p : Place). IsPlaceOf c.args.program.now p) (sym c.place-place.ensures) step.place;
      rise = rises_on _ _ _ l.invariant.rise asked _ _ follows;
      modules = asked-goes_on c.args.stack.now answers asked_view _ _ _ _ _ c.in-Some.number code.result _ l.invariant.modules
          c.in_ok-push.ensures.items asked is follows same;
      same = final_state-follows answers _ _ c.in-Some.number code.result asked is follows ∙ l.invariant.same;
    }

pub returns-clause-asked : goal.returns-clause-asked
returns-clause-asked c =
    let l = c.loop-number in
    let end = sym (c.module.ensures c.args.program.now l.invariant.place) ∙ c.in_default.is in
    asked-ends c.args.stack.now (answers_of c.args.codes.now) _ _ _ l.invariant.modules end

pub returns-clause-decision : goal.returns-clause-decision
returns-clause-decision c =
    let l = c.loop-number in
    let end = sym (c.module.ensures c.args.program.now l.invariant.place) ∙ c.in_default.is in
    let state = sym (final_state-end (answers_of c.args.codes.now) (rest_of c.args.program.now l.place) end) ∙ l.invariant.same in
    c.decision.ensures ∙ ap (λ (s : State). decision_of s) state
