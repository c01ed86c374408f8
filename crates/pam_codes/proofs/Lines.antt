-- The text of a line that is written in pieces: the lemmas of `pam_text`.
pub use Rattle.pam_text.proofs.Pieces.{line_text-append, line_text-take, line_text-at}
