-- What a text that is read in part has left.
use Rattle.std.specs.Prelude.{ℕ, Bool, true, not, ◌==◌, ◌||◌, List, [], ◌∷◌}
use Rattle.pam_text.specs.Blanks.{is_text_blank}
use Rattle.pam_text.specs.Text.{FileByte, text_of}
use Rattle.pam_text.specs.declared.text.Text.{Text}

abbrev pub text_left : Text → List FileByte
text_left text = text_of text.line text.rest.now

-- no bytes, or a first byte that no blank line and no comment begins with
abbrev pub begins_filled : List ℕ → Bool
begins_filled [] = true
begins_filled (b ∷ bs) = not (is_text_blank b || b == 10 || b == 35)
