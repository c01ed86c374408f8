-- the nodes and ends are in lanes for their states, and the ends in the column after the modules
use Rattle.std.proofs.Common.{◌≡◌, ◌+◌}
use Rattle.pam_drawing.specs.picture.inner.Laned.{AreLanesOf}
use Rattle.pam_drawing.proofs.picture.layout.aims.Grid.of.Given as goal

abbrev pub invariant-loop-lane : goal.invariant-loop-lane
invariant-loop-lane l = record { lanes : AreLanesOf l.graph l.grid.lanes; last : l.grid.last ≡ l.modules + 1 }
