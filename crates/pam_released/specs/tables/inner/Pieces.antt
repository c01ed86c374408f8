-- For private contracts and proofs alone: the last line of a time table, found over its physical lines.
use Rattle.std.specs.Prelude.{ℕ, ◌&&◌, ◌||◌, not, Bool, List, [], ◌∷◌}
use Rattle.pam_released.specs.Lines.{before_hash, ends_in_backslash, has_hash}
use Rattle.pam_released.specs.tables.Times.{has_word}

-- all but the last byte
abbrev pub front_of : List ℕ → List ℕ
front_of [] = []
front_of (b ∷ []) = []
front_of (b ∷ c ∷ bs) = b ∷ front_of (c ∷ bs)

-- whether the line that a text goes on with has a word, where it has one before the text
abbrev pub filled_after : Bool → List ℕ → Bool
filled_after filled text = ends_in_backslash text && (filled || has_word (front_of text))

-- whether the last line has a word, if it has one before these pieces, and the last piece has no comment
unfoldable pub is_filled_by : Bool → List (List ℕ) → Bool
is_filled_by filled [] = filled
is_filled_by filled (piece ∷ []) = not (has_hash piece) && (filled || has_word (before_hash piece))
is_filled_by filled (piece ∷ next ∷ pieces) = is_filled_by (filled_after filled (before_hash piece)) (next ∷ pieces)
