use Rattle.std.proofs.Common.{◌≡◌, ◌++◌, drop, map}
use Rattle.pam_policy.specs.needs.Suggestions.{rule_about, suggestion_view}
use Rattle.pam_policy.proofs.needs.suggesting.add_each.Given as goal

-- the rules so far, and those about the events that are left
abbrev pub invariant-loop-event : goal.invariant-loop-event
invariant-loop-event l =
    map suggestion_view l.rules.items ++ map (rule_about l.choice) (drop l.event-index l.chosen)
    ≡ map suggestion_view l.initial.rules.items ++ map (rule_about l.choice) l.chosen
