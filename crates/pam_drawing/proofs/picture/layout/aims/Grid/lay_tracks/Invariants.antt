-- the lanes and the columns stay the same
use Rattle.std.proofs.Common.{◌≡◌}
use Rattle.pam_drawing.proofs.picture.layout.aims.Grid.lay_tracks.Given as goal

abbrev pub invariant-loop-column : goal.invariant-loop-column
invariant-loop-column l = (l.self.lanes ≡ l.fn.self.lanes) × (l.self.last ≡ l.fn.self.last)
