-- the events so far have their marks
use Rattle.std.proofs.Common.{map, take}
use Rattle.pam_policy.specs.rules.Site.{site_view}
use Rattle.pam_policy.specs.rules.inner.Marking.{AreMarksOf, singles}
use Rattle.pam_policy.specs.text.Events.{event_view}
use Rattle.pam_policy.proofs.rules.site.Site.marks_of_each.Given as goal

abbrev pub invariant-loop-event : goal.invariant-loop-event
invariant-loop-event l = AreMarksOf (site_view l.self) l.is_strict (singles (map event_view (take l.event-index l.events))) l.each.items
