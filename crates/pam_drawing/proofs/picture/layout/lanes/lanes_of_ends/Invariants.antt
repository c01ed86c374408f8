-- the ends so far are in lanes for their states
use Rattle.std.proofs.Common.{◌≡◌, ◌<◌, ℕ, length}
use Rattle.pam_drawing.specs.picture.inner.Laned.{IsLaneOfEnd, number_at}
use Rattle.pam_drawing.proofs.picture.layout.lanes.lanes_of_ends.Given as goal

abbrev pub invariant-loop-number : goal.invariant-loop-number
invariant-loop-number l = record {
  count : length l.lanes.items ≡ l.number;
  ends : (decision : ℕ) → decision < l.number → IsLaneOfEnd l.nodes l.states decision (number_at l.lanes.items decision);
}
