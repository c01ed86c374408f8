-- the pieces so far are written
use Rattle.std.proofs.Common.{take}
use Rattle.pam_text.specs.Piece.{line_text}
use Rattle.pam_text.specs.Out.{TookAll}
use Rattle.pam_text.proofs.out.Out.put_line.Given as goal

abbrev pub invariant-loop-piece : goal.invariant-loop-piece
invariant-loop-piece g l = TookAll g.W.Write.contents l.initial.self l.self (line_text (take l.piece-index l.pieces))
