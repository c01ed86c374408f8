use Rattle.std.proofs.Common.{List, ◌++◌}
use Rattle.pam_compare.specs.declared.nodes.Way.{Way}
use Rattle.pam_compare.specs.inner.Trails.{IsTrail}
use Rattle.pam_compare.proofs.witness.trail_to.Given as goal

abbrev pub invariant-loop-at : goal.invariant-loop-at
invariant-loop-at l = record {
  rest : List Way;
  is_rest : IsTrail l.ways l.at rest;
  whole : IsTrail l.ways l.index (l.trail.items ++ rest);
}

abbrev pub decreases-loop-at : goal.decreases-loop-at
decreases-loop-at l = l.at
