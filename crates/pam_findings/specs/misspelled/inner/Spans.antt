-- For private contracts and proofs alone: a piece of a text, as a value.
use Rattle.std.specs.Prelude.{ℕ, List}
use Rattle.pam_findings.specs.declared.misspelled.pieces.Span.{Span}

abbrev pub span_view : Span → ℕ × List ℕ
span_view piece = (piece.start, piece.bytes.now)
