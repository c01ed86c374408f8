-- Where the pieces of a text begin: the words of a line, and the tokens between brackets.
use Rattle.std.specs.Prelude.{ℕ, zero, suc, ◌+◌, List, [], drop, length, slice_get, slice_index_or, Option}
use Rattle.std.specs.List.{prefix_len}
use Rattle.std.specs.Option.{option_map}
use Rattle.pam_text.specs.Blanks.{is_text_blank}

-- if these are the pieces of a text, each after blanks, if there are any
module _ (pieces : List ℕ → List (List ℕ)) where
  -- where the first piece begins, and where it ends
  abbrev pub first_start : List ℕ → ℕ
  first_start text = prefix_len is_text_blank text

  abbrev pub first_end : List ℕ → ℕ
  first_end text = first_start text + length (slice_index_or (pieces text) 0 [])

  -- where the piece after this many begins
  unfoldable pub piece_start : ℕ → List ℕ → ℕ
  piece_start zero text = first_start text
  piece_start (suc number) text = first_end text + piece_start number (drop (first_end text) text)

  -- A PIECE, after this many, beside its start
  abbrev pub piece_at : ℕ → List ℕ → Option (ℕ × List ℕ)
  piece_at number text = option_map (λ piece. (piece_start number text, piece)) (slice_get (pieces text) number)
