-- The words after some of a line, and the words at findings one after the other.
use Rattle.std.proofs.Common.{◌≡◌, ◌∙◌, ℕ, ◌+◌, ◌<◌, List, [], ◌∷◌, ◌++◌, ap, arith, drop, get_or, length, map, refl, suc, sym, take, zero}
use Rattle.std.proofs.lemmas.List.{map-append, take_more}
use Rattle.pam_findings.specs.misspelled.Paths.{after_first}

pub one-later : (words : List (List ℕ)) (n : ℕ) → after_first (drop n words) ≡ drop (n + 1) words
one-later [] zero = refl
one-later [] (suc n) =
    let none : List (List ℕ) = [] in
    let next : suc (n + 1) ≡ suc n + 1 = omega arith in
    ap (λ m. drop m none) next
one-later (word ∷ words) zero = refl
one-later (word ∷ words) (suc n) =
    let next : suc (n + 1) ≡ suc n + 1 = omega arith in
    one-later words n ∙ ap (λ m. drop m (word ∷ words)) next

-- one more finding
pub words-more : {X Y Z : Type 0} (view : Y → Z) (at : X → Z) (found : List X) (i : ℕ) (d : X) (words new : List Y) (word : Y) → i < length found →
    map view words ≡ map at (take i found) → new ≡ words ++ word ∷ [] → view word ≡ at (get_or found i d) →
    map view new ≡ map at (take (i + 1) found)
words-more view at found i d words new word within so_far added is =
    ap (map view) added ∙ map-append view words (word ∷ [])
    ∙ ap (λ l. l ++ view word ∷ []) so_far ∙ ap (λ z. map at (take i found) ++ z ∷ []) is
    ∙ sym (map-append at (take i found) (get_or found i d ∷ [])) ∙ ap (map at) (sym (take_more found i d within))
