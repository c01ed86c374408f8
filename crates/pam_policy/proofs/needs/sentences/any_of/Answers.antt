use Rattle.pam_policy.specs.declared.text.codes.Codes.TheVariants.{LetsGoOn}
use Rattle.pam_policy.specs.needs.Events.{event_text}
use Rattle.pam_policy.specs.text.Events.{event_view}
use Rattle.pam_policy.proofs.HostProofs.Told.{mapped-next}
use Rattle.pam_policy.proofs.needs.sentences.any_of.Goals as goal

pub loop-event-preserved : goal.loop-event-preserved
loop-event-preserved c =
    mapped-next event_view (event_text c.args.stack.now LetsGoOn) c.args.events.now c.loop-event.event-index _ c.loop-event.those.items _ _
    c.in_ok-push.ensures.items c.loop-event-test.true c.in_ok-event.ensures c.loop-event.invariant
