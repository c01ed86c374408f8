-- The words of a line of an accept file.
use Rattle.std.specs.Prelude.{ℕ, Bool, true, false, not, List, [], ◌∷◌, codes, filter, nat_eq, if◌then◌else◌}
use Rattle.std.specs.List.{slice_split, starts_with}
use Rattle.pam_text.specs.Blanks.{is_text_blank}

-- words up to a comment, which begins with a word that begins with `#`
abbrev pub before_comment : List (List ℕ) → List (List ℕ)
before_comment [] = []
before_comment (word ∷ words) = if starts_with nat_eq word (codes "#") then [] else word ∷ before_comment words

abbrev pub is_empty : List ℕ → Bool
is_empty [] = true
is_empty (byte ∷ bytes) = false

-- texts without the empty ones
abbrev pub filled : List (List ℕ) → List (List ℕ)
filled texts = filter (λ text. not (is_empty text)) texts

-- THE WORDS of a line: the texts between blanks, up to a comment
unfoldable pub words_of : List ℕ → List (List ℕ)
words_of line = before_comment (filled (slice_split is_text_blank line))
