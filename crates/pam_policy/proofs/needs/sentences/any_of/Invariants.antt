use Rattle.std.proofs.Common.{◌≡◌, ◌++◌, drop, map}
use Rattle.pam_policy.specs.declared.text.codes.Codes.TheVariants.{LetsGoOn}
use Rattle.pam_policy.specs.needs.Events.{event_text}
use Rattle.pam_policy.specs.text.Events.{event_view}
use Rattle.pam_policy.proofs.needs.sentences.any_of.Given as goal

-- the events so far, and those that are left
abbrev pub invariant-loop-event : goal.invariant-loop-event
invariant-loop-event l =
    map event_view l.those.items ++ map (event_text l.stack LetsGoOn) (drop l.event-index l.events) ≡ map (event_text l.stack LetsGoOn) l.events
