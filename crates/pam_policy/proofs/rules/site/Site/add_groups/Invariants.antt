use Rattle.std.proofs.Common.{map}
use Rattle.pam_paths.specs.Known.{may_answer}
use Rattle.pam_policy.specs.host.Stacks.{known_site}
use Rattle.pam_policy.specs.needs.Suggestions.{suggestion_view}
use Rattle.pam_policy.specs.search.Witness.{IsGraphOf}
use Rattle.pam_policy.proofs.NeedsProofs.Rules.{GroupsAdded}
use Rattle.pam_policy.proofs.rules.site.Site.add_groups.Given as goal

-- the groups so far, and what is left of the events
abbrev pub invariant-loop-turn : goal.invariant-loop-turn
invariant-loop-turn l =
    IsGraphOf (may_answer l.self.known.now) l.self.stack.now l.self.graph.now →
    GroupsAdded (known_site l.self) l.vouching l.rest.items l._turn (map suggestion_view l.initial.rules.items) (map suggestion_view l.rules.items)
