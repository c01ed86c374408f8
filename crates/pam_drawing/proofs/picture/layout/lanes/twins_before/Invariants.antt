-- each earlier node counts at most once
use Rattle.std.proofs.Common.{◌≤◌}
use Rattle.pam_drawing.proofs.picture.layout.lanes.twins_before.Given as goal

abbrev pub invariant-loop-earlier : goal.invariant-loop-earlier
invariant-loop-earlier l = record {
  within : l.twins ≤ l.earlier;
  below : l.twins ≤ l.index;
}
