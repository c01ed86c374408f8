use Rattle.pam_policy.specs.host.Stacks.{known_site}
use Rattle.pam_policy.proofs.NeedsProofs.Deciding.{chosen-all, chosen-next}
use Rattle.pam_policy.proofs.rules.site.Site.chosen.Goals as goal

pub loop-event-preserved : goal.loop-event-preserved
loop-event-preserved c graphs =
    chosen-next (known_site c.args.self.now) c.args.choice c.args.events.now c.loop-event.event-index _ c.loop-event.chosen.items _
    c.in_ok-is_chosen.is_chosen c.loop-event-test.true (c.in_ok-is_chosen.ensures graphs) c.in_ok-add_if.ensures (c.loop-event.invariant graphs)

pub returns : goal.returns
returns c graphs =
    chosen-all (known_site c.args.self.now) c.args.choice c.args.events.now c.loop-event.event-index c.loop-event.chosen.items
    c.loop-event-test.false (c.loop-event.invariant graphs)
