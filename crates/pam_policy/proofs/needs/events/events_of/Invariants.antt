use Rattle.std.proofs.Common.{◌≡◌}
use Rattle.std.specs.List.{flat_map, range_with_len}
use Rattle.pam_policy.specs.needs.Events.{events_at}
use Rattle.pam_policy.proofs.needs.events.events_of.Given as goal

-- the events of the modules so far
abbrev pub invariant-loop-index : goal.invariant-loop-index
invariant-loop-index l = l.events.items ≡ flat_map (events_at l.stack) (range_with_len 1 l.index)
