-- no lane is lost, each state so far has its lanes, and they are in order
use Rattle.std.proofs.Common.{ℕ, ◌<◌, ◌≤◌}
use Rattle.pam_dispatch.specs.State.{state_with}
use Rattle.pam_dispatch.specs.declared.state.State.{State}
use Rattle.pam_drawing.specs.picture.Lanes.{rank}
use Rattle.pam_drawing.specs.picture.inner.Laned.{AreInOrder, HasRoom, lanes_for}
use Rattle.pam_drawing.proofs.picture.layout.lanes.add_lanes_with.Given as goal

abbrev pub invariant-loop-number : goal.invariant-loop-number
invariant-loop-number l = record {
  kept : (s : State) → lanes_for l.initial.states.items s ≤ lanes_for l.states.items s;
  room : (n : ℕ) → n < l.number → HasRoom l.nodes l.twins l.ends l.states.items (state_with l.impression n);
  order : AreInOrder (rank (state_with l.impression l.number)) l.states.items;
}
