use Rattle.std.proofs.Common.{◌≡◌, ◌++◌, drop, map}
use Rattle.pam_policy.specs.names.Placed.{placed, placed_view}
use Rattle.pam_policy.specs.text.Events.{event_view}
use Rattle.pam_policy.proofs.names.placed.push_each.Given as goal

-- the events so far, and those that are left
abbrev pub invariant-loop-event : goal.invariant-loop-event
invariant-loop-event l =
    map placed_view l.placed.items ++ map (placed l.is_strict) (map event_view (drop l.event-index l.events))
    ≡ map placed_view l.initial.placed.items ++ map (placed l.is_strict) (map event_view l.events)
