use Rattle.std.proofs.Common.{◌∙◌, ap, sym}
use Rattle.std.proofs.lemmas.Bool.{eqb-true, eqb-false}
use Rattle.pam_tables.specs.inner.Address.{more_pieces}
use Rattle.pam_tables.proofs.PieceSteps.{pieces_text, pieces_empty, piece_fails, piece_over, piece_goes_on, piece_last, more_nothing}
use Rattle.pam_tables.proofs.pieces.Pieces.then_text.Goals as goal

pub returns-then-is_empty : goal.returns-then-is_empty
returns-then-is_empty c =
    more_nothing c.args.self.number c.args.self.count _ c.args.self.few
    (pieces_empty c.args.ends_in_v4 c.args.text.now (eqb-true _ _ (sym c.is_empty.ensures ∙ c.if-is_empty.true)))

pub returns-in_err-piece : goal.returns-in_err-piece
returns-in_err-piece c =
    rw c.from_residual.ensures (piece_fails c.loop-front.pieces.number c.loop-front.pieces.count c.args.ends_in_v4 _ _ _ c.in-Some.ensures.value
    c.in_err-piece.ensures.value ∙ c.loop-front.invariant
    ∙ sym (ap (more_pieces c.args.self.number c.args.self.count) (pieces_text c.args.ends_in_v4 c.args.text.now
    (eqb-false _ _ (sym c.is_empty.ensures ∙ c.if-is_empty.false)))))

pub returns-in_err-pieces : goal.returns-in_err-pieces
returns-in_err-pieces c =
    rw c.from_residual-in_err-pieces.ensures (piece_over c.loop-front.pieces.number c.loop-front.pieces.count _ c.args.ends_in_v4 _ _ _ c.in-Some.ensures.value
    c.in_ok-piece.ensures.value c.in_err-pieces.ensures ∙ c.loop-front.invariant
    ∙ sym (ap (more_pieces c.args.self.number c.args.self.count) (pieces_text c.args.ends_in_v4 c.args.text.now
    (eqb-false _ _ (sym c.is_empty.ensures ∙ c.if-is_empty.false)))))

pub loop-front-preserved : goal.loop-front-preserved
loop-front-preserved c =
    piece_goes_on c.loop-front.pieces.number c.loop-front.pieces.count _ _ _ c.args.ends_in_v4 _ _ _ c.in-Some.ensures.value c.in_ok-piece.ensures.value
    c.in_ok-pieces.ensures ∙ c.loop-front.invariant

pub returns : goal.returns
returns c =
    c.then_last.ensures ∙ piece_last c.loop-front.pieces.number c.loop-front.pieces.count c.args.ends_in_v4 c.loop-front.rest.now c.in_default.ensures.value
    ∙ c.loop-front.invariant
    ∙ sym (ap (more_pieces c.args.self.number c.args.self.count) (pieces_text c.args.ends_in_v4 c.args.text.now
    (eqb-false _ _ (sym c.is_empty.ensures ∙ c.if-is_empty.false))))
