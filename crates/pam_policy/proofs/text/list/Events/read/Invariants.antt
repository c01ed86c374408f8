-- the events so far, and those that are still to be read
use Rattle.std.proofs.Common.{◌≡◌, length, map}
use Rattle.pam_policy.specs.text.Events.{event_view}
use Rattle.pam_policy.proofs.TextProofs.ListSteps.{all_from}
use Rattle.pam_policy.proofs.text.list.Events.read.Given as goal

abbrev pub invariant-joined : goal.invariant-joined
invariant-joined l =
    all_from l.place l.joint (map event_view l.events.items) l.words ≡ all_from l.place l.joint (map event_view l.initial.events.items) l.initial.words

abbrev pub decreases-joined : goal.decreases-joined
decreases-joined l = length l.words
