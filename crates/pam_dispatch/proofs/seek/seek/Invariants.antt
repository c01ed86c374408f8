use Rattle.std.proofs.Common.{◌≡◌, ◌-◌, ◌<◌, ◌≤◌, length, take, drop}
use Rattle.pam_dispatch.specs.Flat.{resume}
use Rattle.pam_dispatch.proofs.seek.seek.Given as goal

abbrev pub invariant-loop-position : goal.invariant-loop-position
invariant-loop-position l =
    let from = l.initial.place in
    record {
      rest : resume (drop l.position l.program) l.level l.skip (take l.depth l.place.entered.states) l.place.state
          ≡ resume (drop from.position l.program) l.fn.level l.fn.skip (take from.depth from.entered.states) from.state;
      state : l.place.state ≡ from.state;
      below : l.level < l.depth;
      shallow : l.depth ≤ 16;
      full : length l.place.entered.states ≡ 16;
    }

abbrev pub decreases-loop-position : goal.decreases-loop-position
decreases-loop-position l = length l.program - l.position
