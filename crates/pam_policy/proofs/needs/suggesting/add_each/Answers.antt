use Rattle.pam_policy.specs.needs.Suggestions.{rule_about}
use Rattle.pam_policy.proofs.NeedsProofs.Rules.{each-next}
use Rattle.pam_policy.proofs.needs.suggesting.add_each.Goals as goal

pub loop-event-preserved : goal.loop-event-preserved
loop-event-preserved c =
    each-next (rule_about c.args.choice) c.args.chosen.now c.loop-event.event-index _ _ _ _ _ c.in_ok-push.ensures.items c.loop-event-test.true
    c.in_ok-rule_about.ensures c.loop-event.invariant
