-- A text as a word that reads back as that text: pam.conf(5), brackets around an argument.
use Rattle.std.specs.Prelude.{ℕ, Bool, false, List, [], ◌∷◌, ◌++◌, ◌==◌, ◌&&◌, not, if◌then◌else◌, codes}
use Rattle.std.specs.List.{flat_map, list_any}
use Rattle.pam_codes.specs.Tokens.{is_blank}
use Rattle.pam_render.specs.sentences.Shown.{name_within, shown_name}

-- a backslash before each closing bracket
abbrev pub escaped_byte : ℕ → List ℕ
escaped_byte b = if b == 93 then codes "\\]" else b ∷ []

abbrev pub escaped : List ℕ → List ℕ
escaped text = flat_map escaped_byte text

-- a text that needs no brackets: it is not empty, has no blank, and does not begin with a bracket
abbrev pub is_plain : List ℕ → Bool
is_plain [] = false
is_plain (b ∷ bs) = not (b == 91) && not (list_any is_blank (b ∷ bs))

-- a text as a word, in brackets unless it is plain
unfoldable pub word_text : List ℕ → List ℕ
word_text text = if is_plain text then text else codes "[" ++ escaped text ++ codes "]"

-- the same for a terminal alone: no control character is left in it, and no hidden one
unfoldable pub shown_word_text : List ℕ → List ℕ
shown_word_text text = if is_plain text then shown_name text else codes "[" ++ name_within text ++ codes "]"
