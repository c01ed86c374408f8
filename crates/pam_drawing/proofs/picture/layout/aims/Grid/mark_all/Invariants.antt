-- the lanes and the columns stay the same
use Rattle.std.proofs.Common.{◌≡◌}
use Rattle.pam_drawing.proofs.picture.layout.aims.Grid.mark_all.Given as goal

abbrev pub invariant-loop-index : goal.invariant-loop-index
invariant-loop-index l = (l.self.lanes ≡ l.fn.self.lanes) × (l.self.last ≡ l.fn.self.last)

abbrev pub invariant-loop-number : goal.invariant-loop-number
invariant-loop-number l = (l.self.lanes ≡ l.fn.self.lanes) × (l.self.last ≡ l.fn.self.last)
