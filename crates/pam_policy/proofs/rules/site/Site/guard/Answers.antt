use Rattle.std.proofs.Common.{◌↔◌, ◌++◌, ◌∙◌, List, ap, subst}
use Rattle.std.specs.List.{prefix_len}
use Rattle.std.specs.Prelude.{IsTrue}
use Rattle.pam_policy.specs.declared.needs.event.StackEvent.{StackEvent}
use Rattle.pam_policy.specs.host.Stacks.{known_site}
use Rattle.pam_policy.specs.needs.Choices.{AreNeeded}
use Rattle.pam_policy.specs.needs.Fewest.{AreFewest}
use Rattle.pam_policy.proofs.NeedsProofs.Rules.{guard-found, guard-not-alone, guard-not-together, is_before}
use Rattle.pam_policy.proofs.rules.site.Site.guard.Goals as goal

pub returns-then-not-together : goal.returns-then-not-together
returns-then-not-together c graphs =
    let known = known_site c.args.self.now in
    let together = c.in_ok-together.together in
    guard-not-together known c.args.vouching.now c.args.event together c.if-not-together.true
    (subst (λ (l : List StackEvent). IsTrue together ↔ AreNeeded known (l ++ c.args.vouching.now)) c.from_ref-alone.ensures.value
    (c.in_ok-together.ensures graphs))

pub returns-then-without : goal.returns-then-without
returns-then-without c graphs =
    let known = known_site c.args.self.now in
    let kept = c.in_ok-fewest.fewest.kept.items in
    let left = c.in_ok-fewest.fewest.left.items in
    let without = c.in_ok-without.without in
    guard-not-alone known c.args.vouching.now c.args.event kept left without
    (subst (λ (l : List StackEvent). AreFewest (AreNeeded known) l c.args.vouching.now kept left) c.from_ref-alone.ensures.value
    (c.in_ok-fewest.ensures graphs)) c.if-without.true
    (subst (λ (l : List StackEvent). IsTrue without ↔ AreNeeded known l) c.deref.ensures.value (c.in_ok-without.ensures graphs))

pub returns : goal.returns
returns c graphs =
    let known = known_site c.args.self.now in
    let together = c.in_ok-together.together in
    let kept = c.in_ok-fewest.fewest.kept.items in
    let left = c.in_ok-fewest.fewest.left.items in
    let without = c.in_ok-without.without in
    guard-found known c.args.vouching.now c.args.event kept left _ together without c.place_of-place.result c.if-not-together.false
    (subst (λ (l : List StackEvent). IsTrue together ↔ AreNeeded known (l ++ c.args.vouching.now)) c.from_ref-alone.ensures.value
    (c.in_ok-together.ensures graphs))
    (subst (λ (l : List StackEvent). AreFewest (AreNeeded known) l c.args.vouching.now kept left) c.from_ref-alone.ensures.value
    (c.in_ok-fewest.ensures graphs)) c.if-without.false
    (subst (λ (l : List StackEvent). IsTrue without ↔ AreNeeded known l) c.deref.ensures.value (c.in_ok-without.ensures graphs))
    (c.place_of-place.ensures.value ∙ ap (prefix_len (is_before c.args.event)) c.deref-2.ensures.value) c.in_ok-insert.ensures.items
