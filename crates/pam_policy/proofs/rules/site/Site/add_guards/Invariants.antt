use Rattle.std.proofs.Common.{map}
use Rattle.pam_paths.specs.Known.{may_answer}
use Rattle.pam_policy.specs.host.Stacks.{known_site}
use Rattle.pam_policy.specs.needs.Suggestions.{suggestion_view}
use Rattle.pam_policy.specs.search.Witness.{IsGraphOf}
use Rattle.pam_policy.proofs.NeedsProofs.Rules.{GuardsAdded}
use Rattle.pam_policy.proofs.rules.site.Site.add_guards.Given as goal

-- the groups of the names so far
abbrev pub invariant-loop-event : goal.invariant-loop-event
invariant-loop-event l =
    IsGraphOf (may_answer l.self.known.now) l.self.stack.now l.self.graph.now →
    GuardsAdded (known_site l.self) l.vouching l.guarding l.event-index (map suggestion_view l.initial.rules.items) (map suggestion_view l.rules.items)
