-- Names and words as they are shown, part by part.
use Rattle.std.proofs.Common.{◌≡◌, ◌==◌, ◌<◌, ℕ, ◌/◌, ◌%◌, ◌-◌, Bool, true, List, [], ◌∷◌, ◌++◌, codes, ap, arith, length, max, refl, sym, take, ◌∙◌}
use Rattle.std.proofs.lemmas.Bool.{lt-ltb}
use Rattle.std.specs.Prelude.{if◌then◌else◌}
use Rattle.pam_text.proofs.TextSteps.{unequal}
use Rattle.pam_render.specs.sentences.Shown.{byte_within, first_hidden, hex_digit, hidden_at, hidden_len, is_numbered, quoted, shown_byte, shown_bytes, shown_name, shown_word}

-- NAMES

-- a byte that is shown by its number
pub byte-numbered : (numbered : Bool) (byte : ℕ) → true ≡ numbered → codes "\\x" ++ hex_digit (byte / 16) ++ hex_digit (byte % 16) ≡ shown_byte numbered byte
byte-numbered numbered byte h = ap (λ (b : Bool). shown_byte b byte) h

-- a byte, and those after it
pub shown-step : (brackets : Bool) (left after : List ℕ) (hidden more next byte : ℕ) (numbered : Bool) → left ≡ byte ∷ after
    → more ≡ max hidden (hidden_len left) → numbered ≡ is_numbered more byte → next ≡ more - 1
    → byte_within brackets numbered byte ++ shown_bytes brackets next after ≡ shown_bytes brackets hidden left
unfolding shown_bytes
shown-step brackets left after hidden more next byte numbered is many same less =
    ap (λ (b : Bool). byte_within brackets b byte ++ shown_bytes brackets next after) same
    ∙ ap (λ (n : ℕ). byte_within brackets (is_numbered more byte) byte ++ shown_bytes brackets n after) less
    ∙ ap (λ (m : ℕ). byte_within brackets (is_numbered m byte) byte ++ shown_bytes brackets (m - 1) after)
    (many ∙ ap (λ (l : List ℕ). max hidden (hidden_len l)) is)
    ∙ sym (ap (shown_bytes brackets hidden) is)

pub shown-none : (brackets : Bool) (left : List ℕ) (hidden : ℕ) → length left ≡ 0 → shown_bytes brackets hidden left ≡ []
unfolding shown_bytes
shown-none brackets [] hidden none = refl
shown-none brackets (byte ∷ after) hidden none = absurd (omega (arith, none))

-- WORDS

-- a word that is too long to be shown whole
pub long-is : (word : List ℕ) → 64 < length word → shown_name (take 64 word) ++ codes ".." ≡ shown_word word
long-is word long = ap (λ (b : Bool). if b then shown_name (take 64 word) ++ codes ".." else shown_name word) (sym (lt-ltb 64 (length word) long))

pub quoted-is : (word : List ℕ) → (codes "\"" ++ shown_word word) ++ codes "\"" ≡ quoted word
unfolding quoted
quoted-is word = refl

-- THE FIRST HIDDEN CHARACTER

abbrev chosen : List ℕ → ℕ → Bool → ℕ
chosen after character is_none = if is_none then first_hidden after else character

-- it is at the front, or it is that of the bytes after it
pub first-met : (left after : List ℕ) (byte character : ℕ) → left ≡ byte ∷ after → character ≡ hidden_at left → (character ≡ 0 → ⊥)
    → character ≡ first_hidden left
unfolding first_hidden
first-met left after byte character e c n =
    let front : character ≡ hidden_at (byte ∷ after) = c ∙ ap hidden_at e in
    front ∙ sym (ap (chosen after (hidden_at (byte ∷ after))) (unequal (hidden_at (byte ∷ after)) 0 (λ q. n (front ∙ q)))) ∙ sym (ap first_hidden e)

pub first-later : (left after : List ℕ) (byte character : ℕ) → left ≡ byte ∷ after → character ≡ hidden_at left → character ≡ 0
    → first_hidden after ≡ first_hidden left
unfolding first_hidden
first-later left after byte character e c z =
    let none : hidden_at (byte ∷ after) ≡ 0 = sym (c ∙ ap hidden_at e) ∙ z in
    sym (ap (λ (n : ℕ). chosen after (hidden_at (byte ∷ after)) (n == 0)) none) ∙ sym (ap first_hidden e)

pub first-none : (left : List ℕ) → length left ≡ 0 → 0 ≡ first_hidden left
unfolding first_hidden
first-none [] h = refl
first-none (byte ∷ left) h = absurd (omega (arith, h))
