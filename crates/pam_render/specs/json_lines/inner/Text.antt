-- For private contracts and proofs alone: the replacement of bytes that are no UTF-8.
use Rattle.std.specs.Prelude.{ℕ, List, []}
use Rattle.std.specs.Str.Lossy.{replacement_bytes}

abbrev pub invalid_text : List ℕ → List ℕ
invalid_text [] = []
invalid_text bytes = replacement_bytes
