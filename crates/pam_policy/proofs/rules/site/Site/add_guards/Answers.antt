use Rattle.std.proofs.Common.{map}
use Rattle.pam_policy.specs.host.Stacks.{known_site}
use Rattle.pam_policy.specs.needs.Suggestions.{suggestion_view}
use Rattle.pam_policy.proofs.NeedsProofs.Rules.{guards-end, guards-more, guards-start}
use Rattle.pam_policy.proofs.rules.site.Site.add_guards.Goals as goal

pub loop-event-init : goal.loop-event-init
loop-event-init c graphs =
    guards-start (known_site c.args.self.now) c.args.vouching.now c.args.guarding.now (map suggestion_view c.args.rules.now.items)

pub loop-event-preserved : goal.loop-event-preserved
loop-event-preserved c graphs =
    guards-more (known_site c.args.self.now) c.args.vouching.now c.args.guarding.now c.loop-event.event-index _ _ _ _ _ c.loop-event-test.true
    (c.in_ok-found.ensures graphs) c.in_ok-add_found.ensures (c.loop-event.invariant graphs)

pub returns : goal.returns
returns c graphs =
    guards-end (known_site c.args.self.now) c.args.vouching.now c.args.guarding.now c.loop-event.event-index _ _ c.loop-event-test.false
    (c.loop-event.invariant graphs)
