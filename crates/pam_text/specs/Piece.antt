-- The text of a line written in pieces.
use Rattle.std.specs.Prelude.{ℕ, List, [], ◌∷◌, ◌++◌, decimal}
use Rattle.pam_text.specs.declared.piece.Piece.{Piece}
use Rattle.pam_text.specs.declared.piece.Piece.TheVariants.{Bytes, Number}

-- bytes as they are, and a number in decimal
abbrev pub piece_text : Piece → List ℕ
piece_text (Bytes bytes) = bytes.now
piece_text (Number n) = decimal n

abbrev pub line_text : List Piece → List ℕ
line_text [] = []
line_text (piece ∷ pieces) = piece_text piece ++ line_text pieces
