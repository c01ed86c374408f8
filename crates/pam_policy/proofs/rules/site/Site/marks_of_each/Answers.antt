use Rattle.std.proofs.Common.{◌+◌, ◌∙◌, ◌∷◌, List, [], ap, map, refl, subst, take}
use Rattle.std.proofs.lemmas.List.{map-append}
use Rattle.pam_policy.specs.declared.text.event.Event.{Event}
use Rattle.pam_policy.specs.rules.Site.{site_view}
use Rattle.pam_policy.specs.rules.inner.Marking.{AreMarks, AreMarksOf, singles}
use Rattle.pam_policy.specs.text.Events.{event_view}
use Rattle.pam_policy.proofs.RulesProofs.Marking.{groups-none, singles-more}
use Rattle.pam_policy.proofs.SearchProofs.Nodes.{item-of, taken-of}
use Rattle.pam_policy.proofs.rules.site.Site.marks_of_each.Goals as goal

pub loop-event-init : goal.loop-event-init
loop-event-init c = groups-none (site_view c.args.self.now) c.args.is_strict c.new-each.result.items c.new-each.ensures.items

pub loop-event-preserved : goal.loop-event-preserved
loop-event-preserved c =
    let site = site_view c.args.self.now in
    let events = c.args.events.now in
    let i = c.loop-event.event-index in
    let event = c.event-item.result in
    let item = item-of events events i event refl c.loop-event-test.true c.event-item.is in
    singles-more site c.args.is_strict (map event_view (take i events)) (map event_view (take (i + 1) events)) (event_view event) c.marks.result
    c.loop-event.each.items c.push.new.self.items (ap (map event_view) item.next ∙ map-append event_view (take i events) (event ∷ []))
    c.in_ok-push.ensures.items c.loop-event.invariant
    (subst (λ (es : List Event). AreMarks site c.args.is_strict (map event_view es) c.marks.result) c.from_ref.ensures.value c.marks.ensures)

pub returns : goal.returns
returns c =
    let events = c.args.events.now in
    subst (λ (es : List Event). AreMarksOf (site_view c.args.self.now) c.args.is_strict (singles (map event_view es)) c.loop-event.each.items)
    (taken-of events events c.loop-event.event-index refl c.loop-event-test.false) c.loop-event.invariant
