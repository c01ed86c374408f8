-- The text of a line that is written in pieces: the definitions of `pam_text`.
pub use Rattle.pam_text.specs.Piece.{piece_text, line_text}
pub use Rattle.pam_text.specs.declared.piece.Piece.{Piece}
