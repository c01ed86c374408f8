-- The words of a line of a policy file.
use Rattle.std.specs.Prelude.{ℕ, Bool, not, List, codes, filter, nat_eq}
use Rattle.std.specs.List.{slice_split, starts_with, take_while}
use Rattle.pam_text.specs.Blanks.{is_text_blank}
use Rattle.pam_tables.specs.Lines.{has_bytes}

abbrev pub begins_comment : List ℕ → Bool
begins_comment word = starts_with nat_eq word (codes "#")

-- THE WORDS of a line: the texts between blanks, up to one that begins a comment
unfoldable pub words_of : List ℕ → List (List ℕ)
words_of line = take_while (λ word. not (begins_comment word)) (filter has_bytes (slice_split is_text_blank line))
