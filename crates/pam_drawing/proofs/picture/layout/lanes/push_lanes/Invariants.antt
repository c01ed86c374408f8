-- no lane is lost, those so far are for the state, and all are in order
use Rattle.std.proofs.Common.{◌+◌, ◌≤◌}
use Rattle.pam_dispatch.specs.declared.state.State.{State}
use Rattle.pam_drawing.specs.picture.Lanes.{rank}
use Rattle.pam_drawing.specs.picture.inner.Laned.{AreInOrder, lanes_for}
use Rattle.pam_drawing.proofs.picture.layout.lanes.push_lanes.Given as goal

abbrev pub invariant-loop-lane : goal.invariant-loop-lane
invariant-loop-lane l = record {
  kept : (s : State) → lanes_for l.initial.states.items s ≤ lanes_for l.states.items s;
  room : l.lane ≤ lanes_for l.states.items l.state;
  order : AreInOrder (rank l.state + 1) l.states.items;
}
