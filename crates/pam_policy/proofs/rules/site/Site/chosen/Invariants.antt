use Rattle.std.proofs.Common.{◌≡◌}
use Rattle.pam_paths.specs.Known.{may_answer}
use Rattle.pam_policy.specs.declared.needs.event.StackEvent.{StackEvent}
use Rattle.pam_policy.specs.host.Stacks.{known_site}
use Rattle.pam_policy.specs.needs.Choices.{IsChosen}
use Rattle.pam_policy.specs.search.Witness.{IsGraphOf}
use Rattle.pam_policy.proofs.NeedsProofs.Fewest.{SoFar}
use Rattle.pam_policy.proofs.rules.site.Site.chosen.Given as goal

-- those so far are chosen
abbrev pub invariant-loop-event : goal.invariant-loop-event
invariant-loop-event l =
    IsGraphOf (may_answer l.self.known.now) l.self.stack.now l.self.graph.now →
    SoFar (λ (x y : StackEvent). (x ≡ y) × IsChosen (known_site l.self) l.choice x) l.events l.event-index l.chosen.items
