-- the codes are those of the events so far
use Rattle.std.proofs.Common.{◌≡◌, take}
use Rattle.pam_codes.specs.Set.{is_in}
use Rattle.pam_policy.specs.rules.Happening.{event_answers}
use Rattle.pam_policy.specs.rules.Site.{site_view}
use Rattle.pam_policy.specs.text.Events.{event_view}
use Rattle.pam_policy.proofs.RulesProofs.Marking.{codes_of_some}
use Rattle.pam_policy.proofs.rules.site.Site.answers_of_some.Given as goal

abbrev pub invariant-loop-event : goal.invariant-loop-event
invariant-loop-event l =
    l.codes ≡ codes_of_some (λ code event. is_in code (event_answers (site_view l.self) l.is_strict (event_view event) l.number)) (take l.event-index l.events)
