use Rattle.std.proofs.Common.{◌≡◌, ◌∷◌, List, [], map, subst, sym}
use Rattle.pam_policy.specs.declared.text.event.Event.{Event}
use Rattle.pam_policy.specs.declared.text.list.Events.{Events}
use Rattle.pam_policy.specs.rules.Site.{site_view}
use Rattle.pam_policy.specs.rules.inner.Marking.{AreMarks, AreMarksOf, groups_of}
use Rattle.pam_policy.specs.text.Events.{event_view}
use Rattle.pam_policy.specs.text.Lists.{events_view}
use Rattle.pam_policy.proofs.RulesProofs.Lists.{ok-map}
use Rattle.pam_policy.proofs.RulesProofs.Marking.{group-one}
use Rattle.pam_policy.proofs.rules.site.Site.marks_of.Goals as goal

pub returns-in-Or : goal.returns-in-Or
returns-in-Or c =
    let site = site_view c.args.self.now in
    let is_strict = c.args.part.now.is_strict in
    ok-map (λ one. one.items ≡ c.marks.result ∷ [])
    (λ one. AreMarksOf site is_strict (groups_of (events_view c.args.part.now.events.now)) one.items) c.only.result
    (λ one is. subst (λ (events : Events). AreMarksOf site is_strict (groups_of (events_view events)) one.items) (sym c.in-Or.is)
    (group-one site is_strict (map event_view c.in-Or.events.items) c.marks.result one.items is
    (subst (λ (es : List Event). AreMarks site is_strict (map event_view es) c.marks.result) c.deref.ensures.value c.marks.ensures))) c.only.ensures
