use Rattle.pam_released.proofs.AssembledLines.{finished, pieces_end}
use Rattle.pam_released.proofs.assembly.lines_152.Goals as goal

pub returns : goal.returns
returns c = finished _ _ _ _ _ c.finish.ensures (pieces_end _ _ _ _ _ c.in_default.ensures.value) c.loop-piece.invariant.found
