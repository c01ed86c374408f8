-- the numbers so far can be counted on from
use Rattle.pam_drawing.specs.picture.inner.Laned.{AreFew}
use Rattle.pam_drawing.proofs.picture.layout.lanes.all_twins.Given as goal

abbrev pub invariant-loop-index : goal.invariant-loop-index
invariant-loop-index l = AreFew l.twins.items
