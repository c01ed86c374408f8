use Rattle.std.proofs.Common.{◌-◌, ◌<◌, ◌∙◌, ℕ, List, Option, ap, arith, drop, length, not, subst, sym}
use Rattle.std.specs.Option.{is_some}
use Rattle.pam_dispatch.specs.declared.flat_item.FlatItem.{FlatItem}
use Rattle.pam_dispatch.specs.inner.Flat.{IsNumbered}
use Rattle.pam_dispatch.specs.inner.Settled.{KeepFailure}
use Rattle.pam_dispatch.proofs.Places.{place_within}
use Rattle.pam_dispatch.proofs.SettledRuns.{IsRest, none-asked, rest-settled, settled-end}
use Rattle.pam_dispatch.proofs.program.Program.settled.Goals as goal

pub returns-then-is_none-clause-settled : goal.returns-then-is_none-clause-settled
returns-then-is_none-clause-settled c =
    settled-end _ _ (sym (c.module.ensures c.args.self.now c.requires.place) ∙ none-asked c.module.result (c.is_none.ensures ∙ ap not c.if-is_none.true))

pub overflow_sub-result : goal.overflow_sub-result
overflow_sub-result c =
    let asked = ap (λ (o : Option ℕ). is_some o) (sym (c.module.ensures c.args.self.now c.requires.place)) in
    let within : c.args.place.now.position < length c.args.self.now =
    place_within c.args.self.now c.args.place.now c.requires.place (asked ∙ c.is_none.ensures ∙ ap not c.if-is_none.false) in
    let all = ap (λ (ts : List FlatItem). length ts) c.self.view_is in
    omega (arith, within, all, c.len.ensures)

rest-is : (c : goal.After-len) → IsRest c.args.self.now c.args.place.now (c.len.result - c.args.place.now.position)
rest-is c =
    let all = ap (λ (ts : List FlatItem). length ts) c.self.view_is in
    let tail = c.self.inside.harmless_from in
    rest-settled c.args.self.now tail (subst (IsNumbered 0) c.self.view_is c.self.invariant.numbered)
    (subst (λ (ts : List FlatItem). KeepFailure (drop tail ts)) c.self.view_is c.self.invariant.settled)
    c.args.place.now c.requires.place c.if-place-self.false _ (omega (arith, all, c.len.ensures)) (c.has_failed.ensures.failed c.if-not-has_failed.false)

pub returns-clause-settled : goal.returns-clause-settled
returns-clause-settled c = (rest-is c).settled

pub returns-clause-within : goal.returns-clause-within
returns-clause-within c = (rest-is c).within
