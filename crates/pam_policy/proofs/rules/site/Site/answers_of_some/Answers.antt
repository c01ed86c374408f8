use Rattle.std.proofs.Common.{◌+◌, ◌∙◌, Bool, ap, refl, take, ℕ}
use Rattle.pam_codes.specs.Set.{is_in}
use Rattle.pam_policy.specs.declared.text.event.Event.{Event}
use Rattle.pam_policy.specs.rules.Happening.{event_answers}
use Rattle.pam_policy.specs.rules.Site.{site_view}
use Rattle.pam_policy.specs.text.Events.{event_view}
use Rattle.pam_policy.proofs.RulesProofs.Marking.{codes-more, codes-none, codes_of_some}
use Rattle.pam_policy.proofs.SearchProofs.Nodes.{item-of, taken-of}
use Rattle.pam_policy.proofs.rules.site.Site.answers_of_some.Goals as goal

pub loop-event-init : goal.loop-event-init
loop-event-init c =
    let has : ℕ → Event → Bool = λ code event. is_in code (event_answers (site_view c.args.self.now) c.args.is_strict (event_view event) c.args.number) in
    codes-none has c.empty-codes.result c.empty-codes.ensures

pub loop-event-preserved : goal.loop-event-preserved
loop-event-preserved c =
    let has : ℕ → Event → Bool = λ code event. is_in code (event_answers (site_view c.args.self.now) c.args.is_strict (event_view event) c.args.number) in
    let events = c.args.events.now in
    let i = c.loop-event.event-index in
    let event = c.event-item.result in
    let item = item-of events events i event refl c.loop-event-test.true c.event-item.is in
    codes-more has (take i events) (take (i + 1) events) event c.loop-event.codes c.event_answers.result c.union-codes.result item.next
    c.loop-event.invariant c.union-codes.ensures (λ code. ap (is_in code) c.event_answers.ensures)

pub returns : goal.returns
returns c =
    let has : ℕ → Event → Bool = λ code event. is_in code (event_answers (site_view c.args.self.now) c.args.is_strict (event_view event) c.args.number) in
    let events = c.args.events.now in
    c.loop-event.invariant ∙ ap (codes_of_some has) (taken-of events events c.loop-event.event-index refl c.loop-event-test.false)
