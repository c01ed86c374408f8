use Rattle.std.proofs.Common.{◌↔◌, [], List, map, refl, subst}
use Rattle.std.specs.Prelude.{IsTrue}
use Rattle.pam_policy.specs.declared.needs.event.StackEvent.{StackEvent}
use Rattle.pam_policy.specs.host.Stacks.{known_site}
use Rattle.pam_policy.specs.needs.Choices.{AreNeeded}
use Rattle.pam_policy.specs.needs.Fewest.{AreFewest}
use Rattle.pam_policy.specs.needs.Suggestions.{suggestion_view}
use Rattle.pam_policy.proofs.NeedsProofs.Rules.{groups-all, groups-end, groups-more, groups-start}
use Rattle.pam_policy.proofs.rules.site.Site.add_groups.Goals as goal

pub loop-turn-init : goal.loop-turn-init
loop-turn-init c graphs =
    groups-start (known_site c.args.self.now) c.args.vouching.now c.in_ok-rest.rest.items (map suggestion_view c.args.rules.now.items)
    c.in_ok-rest.ensures.items

pub returns-then-not-are_needed : goal.returns-then-not-are_needed
returns-then-not-are_needed c graphs =
    let known = known_site c.args.self.now in
    let needed = c.in_ok-are_needed.are_needed in
    groups-end known c.args.vouching.now c.loop-turn.rest.items _ _ _ needed c.if-not-are_needed.true
    (subst (λ (l : List StackEvent). IsTrue needed ↔ AreNeeded known l) c.deref.ensures.value (c.in_ok-are_needed.ensures graphs))
    (c.loop-turn.invariant graphs)

pub loop-turn-preserved : goal.loop-turn-preserved
loop-turn-preserved c graphs =
    let known = known_site c.args.self.now in
    let needed = c.in_ok-are_needed.are_needed in
    let kept = c.in_ok-fewest.fewest.kept.items in
    let left = c.in_ok-fewest.fewest.left.items in
    groups-more known c.args.vouching.now c.loop-turn.rest.items kept left _ _ c.loop-turn.rules.items _ _ needed c.if-not-are_needed.false
    (subst (λ (l : List StackEvent). IsTrue needed ↔ AreNeeded known l) c.deref.ensures.value (c.in_ok-are_needed.ensures graphs))
    (subst (λ (l : List StackEvent). AreFewest (AreNeeded known) [] l kept left) c.deref-in-loop-turn.ensures.value (c.in_ok-fewest.ensures graphs))
    c.in_ok-push.ensures.items refl (c.loop-turn.invariant graphs)

pub returns : goal.returns
returns c graphs =
    groups-all (known_site c.args.self.now) c.args.vouching.now c.loop-turn.rest.items _ _ _ c.loop-turn-test.false (c.loop-turn.invariant graphs)
