use Rattle.std.proofs.Common.{arith, subst, sym}
use Rattle.pam_drawing.proofs.picture.layout.aims.Grid.of.Goals as goal
use Rattle.pam_drawing.specs.picture.inner.Laned.{AreLanesOf}

pub loop-lane-init : goal.loop-lane-init
loop-lane-init c = record {
  lanes = subst (AreLanesOf c.args.graph.now) (sym c.mark_all.ensures.0) c.in_ok-lanes.ensures;
  last = omega (arith, c.mark_all.ensures.1, c.saturating_add-last.ensures, c.requires);
}
