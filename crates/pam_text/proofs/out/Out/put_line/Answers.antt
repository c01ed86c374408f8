use Rattle.std.proofs.Common.{sym}
use Rattle.pam_text.proofs.Pieces.{line_text-take, line_text-at}
use Rattle.pam_text.proofs.Writing.{err-front, front-then, front-longer, front-is, all-then, all-is}
use Rattle.pam_text.proofs.out.Out.put_line.Goals as goal

pub returns-in_err-put_piece : goal.returns-in_err-put_piece
returns-in_err-put_piece g c =
    err-front _ c.from_residual.ensures.0
    (front-is (front-longer _ (front-then c.loop-piece.invariant c.in_err-put_piece.ensures)) (line_text-at _ _ _ c.loop-piece-test.true))

pub loop-piece-preserved : goal.loop-piece-preserved
loop-piece-preserved g c =
    all-is (all-then c.loop-piece.invariant c.in_ok-put_piece.ensures) (sym (line_text-take _ _ _ c.loop-piece-test.true))
