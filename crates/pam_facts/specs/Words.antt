-- The words of a line of a facts file.
use Rattle.std.specs.Prelude.{ℕ, Bool, true, false, List, [], ◌∷◌, filter}
use Rattle.std.specs.List.{slice_split}
use Rattle.pam_text.specs.Blanks.{is_table_blank}

abbrev pub has_bytes : List ℕ → Bool
has_bytes [] = false
has_bytes (b ∷ bs) = true

-- the texts between spaces and tabs, without the empty ones
unfoldable pub words_of : List ℕ → List (List ℕ)
words_of line = filter has_bytes (slice_split is_table_blank line)
