-- The text of a cursor, code by code.
use Rattle.std.proofs.Common.{◌≡◌, ℕ, ◌+◌, ◌<◌, ◌≤◌, codes, decimal, refl, sym, ap, ◌∙◌, append_assoc, append-nil}
use Rattle.std.proofs.Common.{List, [], ◌∷◌, ◌++◌, drop, get_or, length, take}
use Rattle.std.proofs.lemmas.List.{take-append-drop, take_all, take_more}
use Rattle.std.proofs.lemmas.Grind.{flat_map-append}
use Rattle.std.specs.List.{flat_map}
use Rattle.pam_paths.specs.CursorText.{cursor_text}

abbrev pub after_dot : ℕ → List ℕ
after_dot code = codes "." ++ decimal code

-- the codes after the first
abbrev pub dotted : List ℕ → List ℕ
dotted = flat_map after_dot

dotted-take : (others : List ℕ) (i : ℕ) → i < length others → dotted (take (i + 1) others) ≡ dotted (take i others) ++ after_dot (get_or others i 0)
dotted-take others i inside =
    ap dotted (take_more others i 0 inside) ∙ flat_map-append after_dot (take i others) (get_or others i 0 ∷ [])
    ∙ ap (λ (text : List ℕ). dotted (take i others) ++ text) (append-nil (after_dot (get_or others i 0)))

dotted-at : (others : List ℕ) (i : ℕ) → i < length others
    → (dotted (take i others) ++ after_dot (get_or others i 0)) ++ dotted (drop (i + 1) others) ≡ dotted others
dotted-at others i inside =
    ap (λ (text : List ℕ). text ++ dotted (drop (i + 1) others)) (sym (dotted-take others i inside))
    ∙ sym (flat_map-append after_dot (take (i + 1) others) (drop (i + 1) others)) ∙ ap dotted (take-append-drop (i + 1) others)

regrouped : (a b c d : List ℕ) → ((a ++ b) ++ c) ++ d ≡ a ++ ((b ++ c) ++ d)
regrouped a b c d = simp append_assoc

-- the first code, those before the i-th, that code and the others
pub text_at : (cursor others : List ℕ) (first i head code : ℕ) → cursor ≡ first ∷ others → i < length others → head ≡ first → code ≡ get_or others i 0
    → ((decimal head ++ dotted (take i others)) ++ 46 ∷ (decimal code ++ [])) ++ dotted (drop (i + 1) others) ≡ cursor_text cursor
text_at cursor others first i head code parts inside is_first is_code =
    rw (parts, is_first, is_code, append-nil)
    (regrouped (decimal first) (dotted (take i others)) (after_dot (get_or others i 0)) (dotted (drop (i + 1) others))
    ∙ ap (λ (text : List ℕ). decimal first ++ text) (dotted-at others i inside))

-- all codes
pub text_all : (cursor others : List ℕ) (first i head : ℕ) → cursor ≡ first ∷ others → length others ≤ i → head ≡ first
    → decimal head ++ dotted (take i others) ≡ cursor_text cursor
text_all cursor others first i head parts past is_first = rw (parts, is_first, take_all i others past) refl
