-- the lanes so far are for the states of their nodes, one below the other, and end above the next one
use Rattle.std.proofs.Common.{◌≡◌, ◌+◌, ◌≤◌, map}
use Rattle.std.specs.List.{All, AllPairs, range_with_len}
use Rattle.pam_drawing.specs.declared.picture.layout.heights.Heights.{Heights}
use Rattle.pam_drawing.specs.picture.inner.Laned.{IsHigher, state_at, state_in}
use Rattle.pam_drawing.proofs.picture.layout.heights.all_heights.Given as goal

abbrev pub invariant-loop-lane : goal.invariant-loop-lane
invariant-loop-lane l = record {
  states : map state_at l.heights.items ≡ map (state_in l.all l.grid.lanes.states.items) (range_with_len 0 l.lane);
  order : AllPairs IsHigher l.heights.items;
  ended : All (λ (h : Heights). h.lane.middle + 36 ≤ l.top) l.heights.items;
}
