-- Laws of the definitions.
use Rattle.std.specs.Prelude.{◌≡◌, ◌≤◌, ℕ, ◌+◌, ◌==◌, ◌||◌, nat_lt, not, Bool, true, List, [], ◌∷◌, ◌++◌, if◌then◌else◌}
use Rattle.std.specs.List.{list_all}
use Rattle.pam_render.specs.full_text.Excerpt.{caret_column, text_after, text_before}
use Rattle.pam_render.specs.sentences.Shown.{continues}

abbrev pub AreBytes : List ℕ → Type 0
AreBytes bytes = list_all (λ byte. nat_lt byte 256) bytes ≡ true

-- the characters of a text in UTF-8, by its bytes that continue none
unfoldable pub characters : List ℕ → ℕ
characters [] = 0
characters (byte ∷ rest) = (if continues byte then 0 else 1) + characters rest

-- THE FIRST CARET is below the first byte of the word: there are as many spaces before it as characters before the word
abbrev pub CaretsAreBelow : Type 0
CaretsAreBelow = (before after : List ℕ) → AreBytes before → characters (text_before before after) ≡ caret_column before after

-- A LINE FITS: at most 72 characters are shown of it, with the points
abbrev pub LinesFit : Type 0
LinesFit = (before after : List ℕ) → AreBytes before → AreBytes after → characters (text_before before after ++ text_after before after) ≤ 72

-- NO CONTROL CHARACTER of ASCII is shown of a line, so none ends it, or begins a sequence that moves what a terminal shows
abbrev pub is_control : ℕ → Bool
is_control byte = nat_lt byte 32 || (byte == 127)

abbrev pub NoControls : Type 0
NoControls = (before after : List ℕ) → AreBytes before → AreBytes after
    → list_all (λ byte. not (is_control byte)) (text_before before after ++ text_after before after) ≡ true
