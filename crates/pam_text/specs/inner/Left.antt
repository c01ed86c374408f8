-- For private contracts and proofs alone: what a text that is read in part has left.
use Rattle.std.specs.Prelude.{ℕ, List, [], ◌∷◌, Option, Some, None}
use Rattle.pam_text.specs.Text.{FileByte, first_line, after_line}

-- the line, and the text after it, that begin with a byte, if there is one, and go on with a text
abbrev pub line_from : Option ℕ → List FileByte → List ℕ
line_from None text = []
line_from (Some b) text = first_line ((0, b) ∷ text)

abbrev pub rest_from : Option ℕ → List FileByte → List FileByte
rest_from None text = text
rest_from (Some b) text = after_line ((0, b) ∷ text)
