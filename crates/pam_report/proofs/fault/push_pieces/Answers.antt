use Rattle.std.proofs.Common.{◌≡◌, ℕ, ◌+◌, ◌<◌, List, ◌++◌, length, take, get_or, sym, ap, ◌∙◌, append_assoc}
use Rattle.pam_codes.proofs.Lines.{line_text-take}
use Rattle.pam_codes.specs.Line.{Piece, line_text, piece_text}
use Rattle.pam_report.proofs.fault.push_pieces.Goals as goal

more : (first : List ℕ) {old new : List ℕ} (pieces : List Piece) (i : ℕ) (d : Piece) → i < length pieces → old ≡ first ++ line_text (take i pieces)
    → new ≡ old ++ piece_text (get_or pieces i d) → new ≡ first ++ line_text (take (i + 1) pieces)
more first pieces i d h before e =
    e ∙ ap (λ l. l ++ piece_text (get_or pieces i d)) before
    ∙ append_assoc first (line_text (take i pieces)) (piece_text (get_or pieces i d))
    ∙ ap (λ l. first ++ l) (sym (line_text-take pieces i d h))

pub loop-piece-preserved : goal.loop-piece-preserved
loop-piece-preserved c =
    more _ c.args.pieces.now c.loop-piece.piece-index _ c.loop-piece-test.true c.loop-piece.invariant c.in_ok-push_piece.ensures
